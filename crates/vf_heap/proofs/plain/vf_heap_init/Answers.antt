use Rattle.std.proofs.Common.{arith}
use Rattle.std.proofs.lemmas.Bool.Decides.{nat_tests}
use Rattle.vf_heap.specs.HeapStatus.{length_status}
use Rattle.vf_heap.proofs.plain.vf_heap_init.Goals as goal

pub init-requires-clause-few : goal.init-requires-clause-few
unfolding length_status
init-requires-clause-few c = grind (arith, nat_tests)

pub init-requires-clause-least : goal.init-requires-clause-least
unfolding length_status
init-requires-clause-least c = grind (arith, nat_tests)

pub init-requires-clause-multiple : goal.init-requires-clause-multiple
unfolding length_status
init-requires-clause-multiple c = grind (arith, nat_tests)
