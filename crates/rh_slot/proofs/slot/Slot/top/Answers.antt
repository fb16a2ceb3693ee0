-- The walk begins below all blocks.
use Rattle.rh_slot.proofs.WalkLaws.{walked_start}
use Rattle.rh_slot.proofs.slot.Slot.top.Goals as goal

pub top_from-requires-clause-walked : goal.top_from-requires-clause-walked
top_from-requires-clause-walked g c = walked_start _ _ c.flex_place.ensures
