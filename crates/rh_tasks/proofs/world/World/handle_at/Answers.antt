use Rattle.rh_tasks.proofs.Common.{refl, sym, arith, task_of, Sits}
use Rattle.rh_tasks.proofs.SightLaws.{no-task-there, task-live, task-there}
use Rattle.rh_tasks.proofs.world.World.handle_at.Goals as goal

pub returns-then-i-len-clause-handle : goal.returns-then-i-len-clause-handle
returns-then-i-len-clause-handle g c = rw (← c.self.view_is, no-task-there c.self.invariant c.args.i (omega (arith, c.if-i-len.true, c.len.ensures.value))) refl

pub returns-clause-handle : goal.returns-clause-handle
unfolding task_of
returns-clause-handle g c =
    let there : Sits c.self.inside.seats.items c.args.i c.index.result.now =
    record { inside = omega (arith, c.if-i-len.false, c.len.ensures.value); is = sym c.index.ensures } in
    rw (← c.self.view_is, task-there c.self.invariant there) refl

pub returns-clause-live : goal.returns-clause-live
returns-clause-live g c =
    let there : Sits c.self.inside.seats.items c.args.i c.index.result.now =
    record { inside = omega (arith, c.if-i-len.false, c.len.ensures.value); is = sym c.index.ensures } in
    rw (← c.self.view_is) (task-live c.self.invariant there)
