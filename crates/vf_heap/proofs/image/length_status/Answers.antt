use Rattle.std.proofs.Common.{arith}
use Rattle.std.proofs.lemmas.Bool.Decides.{nat_tests}
use Rattle.vf_heap.specs.HeapStatus.{length_status}
use Rattle.vf_heap.proofs.image.length_status.Goals as goal

pub returns-then-len-lt-HEAP_FIRST : goal.returns-then-len-lt-HEAP_FIRST
unfolding length_status
returns-then-len-lt-HEAP_FIRST c = grind (arith, nat_tests)

pub returns : goal.returns
unfolding length_status
returns c = grind (arith, nat_tests)
