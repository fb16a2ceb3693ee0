use Rattle.rh_tasks.proofs.ItemLaws.{few-items, told}
use Rattle.rh_tasks.proofs.world.World.areas.Goals as goal

pub returns-clause-item : goal.returns-clause-item
returns-clause-item g c =
    rw (← c.self.view_is) (told c.self.invariant c.args.i (rw (← c.self.view_is) at c.free_pages-free.ensures) c.area_item.ensures)

pub returns-clause-few : goal.returns-clause-few
returns-clause-few g c = rw (← c.self.view_is) (few-items c.self.invariant)
