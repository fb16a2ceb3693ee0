use Rattle.std.proofs.Common.{◌-◌}
use Rattle.rh_slot.specs.Inner.RowWalks.{Hangs}
use Rattle.rh_slot.proofs.row.write_anchors_short.Given as goal

abbrev pub invariant-walk : goal.invariant-walk
invariant-walk g l = Hangs (g.S.Words.memory l.initial.store) (g.S.Words.memory l.store) l.area.0 l.from l.n l.place

abbrev pub decreases-walk : goal.decreases-walk
decreases-walk g l = l.end - l.place
