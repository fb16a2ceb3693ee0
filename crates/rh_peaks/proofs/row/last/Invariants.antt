-- The way up has come to word k, and then the way down.
use Rattle.std.proofs.Common.{◌-◌}
use Rattle.rh_peaks.proofs.PeakLaws.{AtUp, AtDown}
use Rattle.rh_peaks.proofs.row.last.Given as goal

abbrev pub invariant-up : goal.invariant-up
invariant-up l = AtUp l.nodes l.i l.k

abbrev pub decreases-up : goal.decreases-up
decreases-up l = l.k

abbrev pub invariant-down : goal.invariant-down
invariant-down l = AtDown l.nodes l.i l.k

abbrev pub decreases-down : goal.decreases-down
decreases-down l = l.w - l.k
