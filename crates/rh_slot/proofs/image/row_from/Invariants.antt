use Rattle.std.proofs.Common.{◌-◌, length}
use Rattle.rh_slot.proofs.ImageWalks.{RowWalk}
use Rattle.rh_slot.proofs.image.row_from.Given as goal

abbrev pub invariant-walk : goal.invariant-walk
invariant-walk l = RowWalk l.image l.from l.row

abbrev pub decreases-walk : goal.decreases-walk
decreases-walk l = length l.image - l.row.top
