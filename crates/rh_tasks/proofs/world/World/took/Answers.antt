use Rattle.std.proofs.Common.{rules}
use Rattle.rh_tasks.proofs.Common.{ap, sym, subst, arith, length, Shown, member-at, le-true}
use Rattle.rh_defs.specs.declared.transfer_action.TakeAction.TheVariants as take
use Rattle.rh_defs.specs.Receiver as receiver
use Rattle.rh_tasks.specs.Inner.PollSteps.{CanTake}
use Rattle.rh_tasks.proofs.Dues.{still-takes}
use Rattle.rh_tasks.proofs.Takings.{inside, stands-dropped, dropped-records, failed-as, handles-as, as-next, took-ended, took-more, took-failed}
use Rattle.rh_tasks.proofs.world.World.took.Goals as goal

pub edit_taking-requires-clause-place : goal.edit_taking-requires-clause-place
edit_taking-requires-clause-place g c =
    let t = member-at c.args.self.now.desk.tasks c.args.i c.requires.place in
    inside (stands-dropped c.args.self.now.desk c.drop_buffer.new.self.desk c.args.i t.0.handle c.args.a.now.transfer.buffer t.0
    (c.drop_buffer.ensures t.0 t.1) t.1)

pub edit_taking-requires-clause-taken : goal.edit_taking-requires-clause-taken
edit_taking-requires-clause-taken g c =
    let t = member-at c.args.self.now.desk.tasks c.args.i c.requires.place in
    let due =
    still-takes (dropped-records t.0.handle c.args.a.now.transfer.buffer (c.drop_buffer.ensures t.0 t.1)) c.args.i (take.Append c.args.a.now) c.requires.due in
    λ u there said new p. let is = due u there in search rules

pub returns-in-Finish : goal.returns-in-Finish
returns-in-Finish g c t at =
    as-next c.args.self.now.desk t c.args.a.now c.edit_taking.new.self c.in-Finish.is
    (took-ended c.args.self.now.desk c.drop_buffer.new.self.desk c.edit_taking.new.self c.args.i t c.args.a.now at (c.drop_buffer.ensures t at)
    (λ u there. c.edit_taking.ensures u (receiver.finished c.args.a.now) there (λ new p. search rules)))

pub end_failed-requires-clause-place : goal.end_failed-requires-clause-place
end_failed-requires-clause-place g c =
    let t = member-at c.args.self.now.desk.tasks c.args.i c.requires.place in
    omega (arith, c.requires.place, ap (λ (x : Shown). length x.desk.tasks) (c.in-Err.ensures t.0 t.1).1)

pub end_failed-requires-clause-due : goal.end_failed-requires-clause-due
end_failed-requires-clause-due g c =
    let t = member-at c.args.self.now.desk.tasks c.args.i c.requires.place in
    subst (λ (x : Shown). CanTake c.args.i (take.Append c.args.a.now) x.desk) (sym (c.in-Err.ensures t.0 t.1).1) c.requires.due

pub end_failed-requires-clause-kept : goal.end_failed-requires-clause-kept
end_failed-requires-clause-kept g c = le-true c.args.a.now.n c.args.a.now.n (omega arith)

pub returns-in-Ok : goal.returns-in-Ok
returns-in-Ok g c t at =
    let more = c.in-Ok.ensures t at in
    as-next c.args.self.now.desk t c.args.a.now c.fetch_more.new.self c.in-Fetch.is
    (handles-as c.fetch_more.new.self more.0
    (took-more c.args.self.now.desk t c.args.a.now c.in-Fetch.fetch (more.0, c.in-Ok.outcome) more.1.0) more.1.1)

pub returns-in-Err : goal.returns-in-Err
returns-in-Err g c t at =
    let refused = c.in-Err.ensures t at in
    as-next c.args.self.now.desk t c.args.a.now c.end_failed.new.self c.in-Fetch.is
    (failed-as c.args.self.now.desk c.fetch_more.new.self c.end_failed.new.self c.args.i t c.args.a.now.transfer
    (receiver.failed_with c.args.a.now c.args.a.now.n)
    (took-failed c.args.self.now.desk t c.args.a.now c.in-Fetch.fetch c.in-Err.refusal refused.0)
    at (ap (λ (x : Shown). x.desk) refused.1) c.end_failed.ensures)
