use Rattle.rh_tasks.proofs.Scraps.{dropped-desk, dropped-world}
use Rattle.rh_tasks.proofs.world.World.drop_scrap.Goals as goal

pub invariant_of-self : goal.invariant_of-self
invariant_of-self g c =
    dropped-world c.self.invariant (g.met.S.Paged.whole c.self.inside.store 5)

pub returns : goal.returns
returns g c = rw (← c.self.view_is) (dropped-desk c.self.invariant)
