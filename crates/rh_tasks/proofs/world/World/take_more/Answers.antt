use Rattle.rh_tasks.proofs.Common.{sym, ap, subst, ◌∙◌, arith, length, Desk, Handled, Shown, first_bytes, heap_block_at, le-true, member-at}
use Rattle.rh_defs.specs.declared.reply.Outcome.TheVariants as outcome
use Rattle.rh_defs.specs.declared.transfer_action.TakeAction.TheVariants as take
use Rattle.rh_defs.specs.Receiver as receiver
use Rattle.rh_tasks.specs.Inner.PollSteps.{CanTake}
use Rattle.rh_tasks.proofs.Dues.{still-takes}
use Rattle.rh_tasks.proofs.Takings.{inside, stands-appended, appended-records, failed-as, none-kept, taken-refused, taken-on}
use Rattle.rh_tasks.proofs.world.World.take_more.Goals as goal

pub took-requires-clause-place : goal.took-requires-clause-place
took-requires-clause-place g c =
    let t = member-at c.args.self.now.desk.tasks c.args.i c.requires.place in
    inside (stands-appended c.args.self.now.desk c.append_buffer.new.self.desk c.args.i t.0 c.args.a.now.transfer.anchor
    (first_bytes c.args.a.now.n (heap_block_at c.args.a.now.transfer.buffer t.0.slot)) (c.in-Ok.ensures t.0 t.1) t.1)

pub took-requires-clause-due : goal.took-requires-clause-due
took-requires-clause-due g c =
    let t = member-at c.args.self.now.desk.tasks c.args.i c.requires.place in
    still-takes (appended-records c.args.self.now.desk c.append_buffer.new.self.desk t.0 c.args.a.now.transfer.anchor
    (first_bytes c.args.a.now.n (heap_block_at c.args.a.now.transfer.buffer t.0.slot)) (c.in-Ok.ensures t.0 t.1)) c.args.i
    (take.Append c.args.a.now) c.requires.due

pub end_failed-requires-clause-place : goal.end_failed-requires-clause-place
end_failed-requires-clause-place g c =
    let t = member-at c.args.self.now.desk.tasks c.args.i c.requires.place in
    omega (arith, c.requires.place, ap (λ (x : Shown). length x.desk.tasks) (c.in-Err.ensures t.0 t.1).1)

pub end_failed-requires-clause-due : goal.end_failed-requires-clause-due
end_failed-requires-clause-due g c =
    let t = member-at c.args.self.now.desk.tasks c.args.i c.requires.place in
    subst (λ (x : Shown). CanTake c.args.i (take.Append c.args.a.now) x.desk) (sym (c.in-Err.ensures t.0 t.1).1) c.requires.due

pub end_failed-requires-clause-kept : goal.end_failed-requires-clause-kept
end_failed-requires-clause-kept g c = le-true 0 c.args.a.now.n (omega arith)

pub returns-in-Ok : goal.returns-in-Ok
returns-in-Ok g c t at =
    taken-on c.args.self.now.desk c.append_buffer.new.self c.took.new.self c.args.i t c.args.a.now at (c.in-Ok.ensures t at) c.took.ensures

pub returns-in-Err : goal.returns-in-Err
returns-in-Err g c t at =
    let refused = c.in-Err.ensures t at in
    failed-as c.args.self.now.desk c.append_buffer.new.self c.end_failed.new.self c.args.i t c.args.a.now.transfer (receiver.failed_with c.args.a.now 0)
    (taken-refused c.args.self.now.desk t c.args.a.now c.in-Err.refusal refused.0
    ∙ ap (λ (d : Desk). let h : Handled = (d, outcome.Refused c.in-Err.refusal) in h) (sym (none-kept c.args.self.now.desk t c.args.a.now)))
    at (ap (λ (x : Shown). x.desk) refused.1) c.end_failed.ensures
