use Rattle.rh_tasks.proofs.Common.{w32, to_z-of_z}
use Rattle.rh_tasks.proofs.world.World.change_area.Goals as goal

pub returns-then-number : goal.returns-then-number
returns-then-number g c = rw (to_z-of_z w32 c.args.delta c.ranges.delta) at c.change_fixed.ensures

pub returns : goal.returns
returns g c = rw (to_z-of_z w32 c.args.delta c.ranges.delta) at c.change_made.ensures
