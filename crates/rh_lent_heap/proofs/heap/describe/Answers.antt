use Rattle.rh_lent_heap.proofs.Common.{bytes, area_set, memory_shown, memory_over}
use Rattle.rh_lent_heap.proofs.HeapBytes.{is_span}
use Rattle.rh_lent_heap.proofs.heap.describe.Goals as goal

pub describe-requires : goal.describe-requires
unfolding memory_shown
describe-requires c = is_span c.args.memory.now _ c.requires

pub returns-clause-largest : goal.returns-clause-largest
unfolding memory_shown memory_over bytes area_set
returns-clause-largest c = c.describe.ensures.largest

pub returns-clause-free : goal.returns-clause-free
unfolding memory_shown memory_over bytes area_set
returns-clause-free c = c.describe.ensures.total
