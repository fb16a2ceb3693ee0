-- The way down has come to word k.
use Rattle.std.proofs.Common.{◌-◌}
use Rattle.rh_peaks.proofs.PeakLaws.{AtNode}
use Rattle.rh_peaks.proofs.row.first.Given as goal

abbrev pub invariant-walk : goal.invariant-walk
invariant-walk l = AtNode l.nodes l.t l.k

abbrev pub decreases-walk : goal.decreases-walk
decreases-walk l = l.w - l.k
