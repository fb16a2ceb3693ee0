use Rattle.rh_tasks.proofs.Common.{sym, ap, ◌∙◌, task_of}
use Rattle.rh_defs.specs.RawTasks.{is_raw_task}
use Rattle.rh_tasks.proofs.TransferBlocks.{a-task, no-task, seat-of}
use Rattle.rh_tasks.proofs.world.World.is_raw_at.Goals as goal

pub returns-in_default : goal.returns-in_default
returns-in_default g c = rw (← c.self.view_is) (sym (ap is_raw_task (no-task c.self.invariant c.args.handle (sym c.in_default.ensures))))

pub returns : goal.returns
unfolding task_of
returns g c =
    let a = seat-of _ _ _ _ (sym c.in-Some.ensures) c.index-seat.ensures in
    rw (← c.self.view_is) (c.is_raw.ensures ∙ sym (ap is_raw_task (a-task c.self.invariant a)))
