-- The blocks below the place write_anchors, in the anchor words that stand apart.
use Rattle.rh_slot.proofs.Common.{◌+◌, ◌-◌, bytes, HangsApart}
use Rattle.rh_slot.proofs.row.write_anchors_long.Given as goal

abbrev pub invariant-walk : goal.invariant-walk
invariant-walk g l = HangsApart (bytes (g.S.Words.memory l.store) l.area.0) l.anchors l.from l.n l.place

abbrev pub decreases-walk : goal.decreases-walk
decreases-walk g l = l.from + l.n - l.place
