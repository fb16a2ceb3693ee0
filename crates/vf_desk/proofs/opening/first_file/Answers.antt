use Rattle.std.proofs.Common.{None, ap, ◌∙◌}
use Rattle.vf_desk.specs.FileRows.{given_bytes}
use Rattle.vf_desk.specs.Opening.{file_status}
use Rattle.vf_desk.proofs.OpeningLaws.{adds-bad, adds-first-done, adds-first-refused, adds-full}
use Rattle.vf_desk.proofs.opening.first_file.Goals as goal

pub returns-then-fault-ne-OK : goal.returns-then-fault-ne-OK
returns-then-fault-ne-OK c = adds-bad c.requires c.args.name.now (given_bytes c.args.file.now)
    (c.first_file_status-fault.ensures ∙ ap (file_status None c.args.name.now) c.as_slice.ensures) c.if-fault-ne-OK.true

pub returns-in_default : goal.returns-in_default
returns-in_default c = adds-full c.requires c.args.name.now (given_bytes c.args.file.now)
    (c.first_file_status-fault.ensures ∙ ap (file_status None c.args.name.now) c.as_slice.ensures) c.if-fault-ne-OK.false

pub returns-then-status-ne-OK : goal.returns-then-status-ne-OK
returns-then-status-ne-OK c =
    adds-first-refused (record {
      files = ap (λ s. s.files) c.deref_mut.ensures.value ∙ c.in-Some.ensures.0;
      console = ap (λ s. s.console) c.deref_mut.ensures.value ∙ c.in-Some.ensures.1;
      empty = c.requires;
    }) c.add_file-status.ensures c.if-status-ne-OK.true

pub returns : goal.returns
returns c =
    adds-first-done (record {
      files = ap (λ s. s.files) c.deref_mut.ensures.value ∙ c.in-Some.ensures.0;
      console = ap (λ s. s.console) c.deref_mut.ensures.value ∙ c.in-Some.ensures.1;
      empty = c.requires;
    }) c.add_file-status.ensures c.if-status-ne-OK.false c.put.ensures
