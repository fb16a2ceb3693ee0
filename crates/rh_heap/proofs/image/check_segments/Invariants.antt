use Rattle.std.proofs.Common.{◌-◌}
use Rattle.rh_heap.proofs.CheckLaws.{Checked}
use Rattle.rh_heap.proofs.image.check_segments.Given as goal

abbrev pub invariant-walk : goal.invariant-walk
invariant-walk l = Checked l.image l.base l.from l.place l.sums

abbrev pub decreases-walk : goal.decreases-walk
decreases-walk l = l.base - l.place
