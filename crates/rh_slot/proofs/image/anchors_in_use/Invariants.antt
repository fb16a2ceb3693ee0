use Rattle.rh_slot.proofs.Common.{◌-◌, anchor_count}
use Rattle.rh_slot.proofs.AnchorCounts.{WordsTo}
use Rattle.rh_slot.proofs.image.anchors_in_use.Given as goal

abbrev pub invariant-walk : goal.invariant-walk
invariant-walk l = WordsTo l.image l.anchor l.used

abbrev pub decreases-walk : goal.decreases-walk
decreases-walk l = anchor_count - l.anchor
