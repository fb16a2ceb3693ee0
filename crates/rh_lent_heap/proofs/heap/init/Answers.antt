use Rattle.rh_lent_heap.proofs.Common.{rules, ◌≡◌, length, arith, heap_of, bytes, area_set, lent_memory, memory_over}
use Rattle.rh_defs.specs.Heap.{empty_heap}
use Rattle.rh_lent_heap.specs.Heaps.{IsHeapBytes}
use Rattle.rh_lent_heap.proofs.HeapBytes.{heap_bytes}
use Rattle.rh_lent_heap.proofs.Over.{over-open}
use Rattle.rh_lent_heap.proofs.heap.init.Goals as goal

pub init-requires-clause-opened : goal.init-requires-clause-opened
unfolding lent_memory
init-requires-clause-opened c = over-open c.args.memory.now _

pub init-requires-clause-within : goal.init-requires-clause-within
unfolding lent_memory memory_over area_set bytes
init-requires-clause-within c = omega arith

pub returns-clause-bytes : goal.returns-clause-bytes
unfolding lent_memory memory_over area_set bytes
returns-clause-bytes c =
    let name = c.init.ensures.only.loan in
    let new = c.init.new.store.bytes.now in
    let made : IsHeapBytes new =
    heap_bytes c.args.memory.now new _ c.requires.few c.init.ensures.only.outside c.init.ensures.still.spells in
    search rules

pub returns-clause-heap : goal.returns-clause-heap
unfolding lent_memory memory_over area_set bytes
returns-clause-heap c =
    let name = c.init.ensures.only.loan in
    let made : heap_of c.init.new.store.bytes.now 0 ≡ empty_heap (length c.args.memory.now) = c.init.ensures.heap in
    search rules
