use Rattle.rh_tasks.proofs.SightLaws.{scrap-seen}
use Rattle.rh_tasks.proofs.world.World.scrap.Goals as goal

pub returns : goal.returns
returns g c = rw (← c.self.view_is) (scrap-seen c.self.invariant)
