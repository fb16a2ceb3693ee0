use Rattle.std.proofs.Common.{ap, ◌∙◌}
use Rattle.vf_desk.proofs.OpeningLaws.{opens-bad, opens-first-done, opens-first-refused, opens-full}
use Rattle.vf_desk.proofs.opening.open_new.Goals as goal

pub returns-then-fault-ne-OK : goal.returns-then-fault-ne-OK
returns-then-fault-ne-OK c = opens-bad c.requires c.args.pages c.args.first_handle c.args.first_ref c.first_status-fault.ensures c.if-fault-ne-OK.true

pub returns-in_default : goal.returns-in_default
returns-in_default c = opens-full c.requires c.args.pages c.args.first_handle c.args.first_ref c.first_status-fault.ensures c.if-fault-ne-OK.false

pub returns-then-status-ne-OK : goal.returns-then-status-ne-OK
returns-then-status-ne-OK c =
    opens-first-refused (record {
      files = ap (λ s. s.files) c.deref_mut.ensures.value ∙ c.in-Some.ensures.0;
      console = ap (λ s. s.console) c.deref_mut.ensures.value ∙ c.in-Some.ensures.1;
      empty = c.requires;
    }) c.open-status.ensures c.if-status-ne-OK.true

pub returns : goal.returns
returns c =
    opens-first-done (record {
      files = ap (λ s. s.files) c.deref_mut.ensures.value ∙ c.in-Some.ensures.0;
      console = ap (λ s. s.console) c.deref_mut.ensures.value ∙ c.in-Some.ensures.1;
      empty = c.requires;
    }) c.open-status.ensures c.if-status-ne-OK.false c.put.ensures
