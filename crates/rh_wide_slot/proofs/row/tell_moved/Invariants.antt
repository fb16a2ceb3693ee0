use Rattle.std.proofs.Common.{◌-◌}
use Rattle.rh_wide_slot.proofs.EntryLaws.{Telling}
use Rattle.rh_wide_slot.proofs.row.tell_moved.Given as goal

abbrev pub invariant-walk : goal.invariant-walk
invariant-walk l = Telling l.initial.bytes l.bytes l.from l.to l.slot.anchors l.anchor l.moved

abbrev pub decreases-walk : goal.decreases-walk
decreases-walk l = l.slot.anchors - l.anchor
