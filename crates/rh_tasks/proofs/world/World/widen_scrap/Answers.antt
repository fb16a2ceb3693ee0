use Rattle.rh_tasks.proofs.Common.{arith, free-is}
use Rattle.rh_tasks.proofs.Scraps.{wider-desk, wider-world}
use Rattle.rh_tasks.proofs.world.World.widen_scrap.Goals as goal

pub invariant_of-self : goal.invariant_of-self
invariant_of-self g c =
    let room = rw (← c.self.view_is) at c.requires in
    let e = rw c.unwrap.ensures at c.grow.ensures.ok in
    rw e (
    wider-world c.self.invariant c.args.more (omega (arith, room, free-is c.self.invariant)) (g.met.S.Paged.whole c.self.inside.store 5))

pub returns : goal.returns
returns g c =
    let room = rw (← c.self.view_is) at c.requires in
    let e = rw c.unwrap.ensures at c.grow.ensures.ok in
    rw (e, ← c.self.view_is) (
    wider-desk c.self.invariant c.args.more (omega (arith, room, free-is c.self.invariant)) (g.met.S.Paged.whole c.self.inside.store 5)
    )
