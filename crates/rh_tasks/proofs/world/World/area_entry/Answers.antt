use Rattle.rh_tasks.proofs.Common.{slice_get, ap, sym, ◌∙◌}
use Rattle.rh_tasks.proofs.ItemLaws.{few-items, items-are}
use Rattle.rh_tasks.proofs.world.World.area_entry.Goals as goal

pub returns-clause-item : goal.returns-clause-item
returns-clause-item g c =
    rw (← c.self.view_is) (c.entry_at.ensures ∙ ap (λ l. slice_get l c.args.i) (sym (items-are c.self.invariant)))

pub returns-clause-few : goal.returns-clause-few
returns-clause-few g c = rw (← c.self.view_is) (few-items c.self.invariant)
