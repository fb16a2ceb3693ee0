use Rattle.std.proofs.Common.{◌∙◌}
use Rattle.rh_tasks.proofs.SightLaws.{ref-is}
use Rattle.rh_tasks.proofs.world.World.next_ref.Goals as goal

pub returns : goal.returns
returns g c = rw (← c.self.view_is) (c.next_ref.ensures ∙ ref-is c.self.invariant)
