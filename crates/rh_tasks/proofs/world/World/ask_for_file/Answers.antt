use Rattle.rh_tasks.proofs.Common.{sym, ap, subst, arith, length, Shown, member-at}
use Rattle.rh_defs.specs.declared.transfer_action.TakeAction.TheVariants as take
use Rattle.rh_defs.specs.Receiver as receiver
use Rattle.rh_tasks.specs.Inner.PollSteps.{CanTake}
use Rattle.rh_tasks.proofs.Takings.{failed-as, handles-as, asked-done, asked-refused}
use Rattle.rh_tasks.proofs.world.World.ask_for_file.Goals as goal

pub end_failed-requires-clause-place : goal.end_failed-requires-clause-place
end_failed-requires-clause-place g c =
    let t = member-at c.args.self.now.desk.tasks c.args.i c.requires.place in
    omega (arith, c.requires.place, ap (λ (x : Shown). length x.desk.tasks) (c.in-Err.ensures t.0 t.1).1)

pub end_failed-requires-clause-due : goal.end_failed-requires-clause-due
end_failed-requires-clause-due g c =
    let t = member-at c.args.self.now.desk.tasks c.args.i c.requires.place in
    subst (λ (x : Shown). CanTake c.args.i (take.AskForFile c.args.f.now) x.desk) (sym (c.in-Err.ensures t.0 t.1).1) c.requires.due

pub returns-in-Ok : goal.returns-in-Ok
returns-in-Ok g c t at =
    let asked = c.in-Ok.ensures t at in
    handles-as c.ask.new.self asked.0 (asked-done c.args.self.now.desk t c.args.f.now (asked.0, c.in-Ok.outcome) asked.1.0) asked.1.1

pub returns-in-Err : goal.returns-in-Err
returns-in-Err g c t at =
    let refused = c.in-Err.ensures t at in
    failed-as c.args.self.now.desk c.ask.new.self c.end_failed.new.self c.args.i t c.args.f.now (receiver.taking_failed c.args.f.now)
    (asked-refused c.args.self.now.desk t c.args.f.now c.in-Err.refusal refused.0)
    at (ap (λ (x : Shown). x.desk) refused.1) c.end_failed.ensures
