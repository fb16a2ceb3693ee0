use Rattle.store_tests.proofs.Zeros.{zeros_tree}
use Rattle.store_tests.proofs.peaks.rows.Goals as goal

pub loop-line-init : goal.loop-line-init
loop-line-init g c = zeros_tree
