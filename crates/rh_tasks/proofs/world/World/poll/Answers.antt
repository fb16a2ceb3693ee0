use Rattle.rh_tasks.proofs.Common.{refl, err_from_is_err_and, ends, nobody, task_of}
use Rattle.rh_defs.specs.Commands.{poll}
use Rattle.rh_tasks.proofs.Finding.{found-in}
use Rattle.rh_tasks.proofs.Polls.{none-taken, some-taken, place-then, task-there, poll-none, poll-some}
use Rattle.rh_tasks.proofs.world.World.poll.Goals as goal

pub returns-in_err-i : goal.returns-in_err-i
unfolding poll
returns-in_err-i g c =
    let p = err_from_is_err_and c.from_residual.result c.from_residual.ensures.1 in
    rw (p.1, p.2, c.in_err-i.ensures.err.0, ← c.self.view_is) (ends _ (nobody _ _ _ _ _ _ c.in_err-i.ensures.err.1), refl)

pub returns-in_default : goal.returns-in_default
unfolding task_of
returns-in_default g c =
    let f = found-in c.in_ok-i.ensures.ok in
    let e = rw (← c.self.view_is) at c.in_default.ensures in
    let at = task-there c.self.invariant f.1 in
    rw (← c.self.view_is) (poll-none c.self.invariant f.1 (none-taken _ (e.event _ at)) _ (e.desk _ at))

pub receive-outcome-requires : goal.receive-outcome-requires
unfolding task_of
receive-outcome-requires g c =
    let f = found-in c.in_ok-i.ensures.ok in
    let e = rw (← c.self.view_is) at c.take_event.ensures in
    place-then c.self.invariant f.1 _ (e.desk _ (task-there c.self.invariant f.1))

pub returns : goal.returns
unfolding task_of
returns g c =
    let f = found-in c.in_ok-i.ensures.ok in
    let e = rw (← c.self.view_is) at c.in-Some.ensures in
    let at = task-there c.self.invariant f.1 in
    rw (← c.self.view_is, c.action.ensures)
    (poll-some c.self.invariant f.1 (some-taken _ _ (e.event _ at)) _ _ _ (e.desk _ at) c.receive-outcome.ensures)
