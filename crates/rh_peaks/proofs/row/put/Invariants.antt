-- All words but the one over word k are the larger of two.
use Rattle.rh_peaks.proofs.PeakLaws.{IsPut}
use Rattle.rh_peaks.proofs.row.put.Given as goal

abbrev pub invariant-walk : goal.invariant-walk
invariant-walk l = IsPut l.fn.nodes l.i l.v l.nodes l.k

abbrev pub decreases-walk : goal.decreases-walk
decreases-walk l = l.k
