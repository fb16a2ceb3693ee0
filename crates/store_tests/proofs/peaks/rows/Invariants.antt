-- the larger of each two stand over them
use Rattle.rh_peaks.specs.Peaks.{IsTree}
use Rattle.store_tests.proofs.peaks.rows.Given as goal

abbrev pub invariant-loop-line : goal.invariant-loop-line
invariant-loop-line g l = IsTree l.nodes
