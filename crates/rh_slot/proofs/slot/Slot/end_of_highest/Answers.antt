-- A block that is found stands in the row, and a walk comes to its end.
use Rattle.rh_slot.proofs.FlexLaws.{walked_past}
use Rattle.rh_slot.proofs.PageLaws.{anchors_long}
use Rattle.rh_slot.proofs.slot.Slot.end_of_highest.Goals as goal

pub highest-requires : goal.highest-requires
highest-requires g c = anchors_long _ _ c.rest_of_page-anchors.ensures

pub returns-clause-walked : goal.returns-clause-walked
returns-clause-walked g c = walked_past _ _ _ _ _ _ c.in-Some.ensures.at c.flex_weight.ensures
