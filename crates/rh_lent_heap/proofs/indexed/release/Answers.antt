use Rattle.rh_lent_heap.proofs.Common.{rules, heap_of, bytes, area_set, no_answer, IsIndex, lent_memory, memory_over, LeavesBytes}
use Rattle.rh_defs.specs.Heap.{released_at}
use Rattle.rh_lent_heap.proofs.HeapBytes.{is_span, leaves_bytes}
use Rattle.rh_lent_heap.proofs.indexed.release.Goals as goal

pub release_in-requires-clause-span : goal.release_in-requires-clause-span
unfolding lent_memory
release_in-requires-clause-span c = is_span c.args.memory.now _ c.requires.heap

pub release_in-requires-clause-starts : goal.release_in-requires-clause-starts
unfolding lent_memory memory_over bytes area_set
release_in-requires-clause-starts c = c.requires.starts

pub returns-clause-leaves : goal.returns-clause-leaves
unfolding lent_memory memory_over bytes area_set
returns-clause-leaves c =
    let b = c.args.memory.now in
    let new = c.release_in.new.store.bytes.now in
    let granted = no_answer (released_at c.args.address (heap_of b 0)) in
    let name = c.release_in.ensures.leaves.only.loan in
    let left : LeavesBytes b new granted c.release_in.result =
    leaves_bytes b new _ _ granted c.release_in.result c.requires.heap c.release_in.ensures.leaves in
    search rules

pub returns-clause-starts : goal.returns-clause-starts
unfolding lent_memory memory_over bytes area_set
returns-clause-starts c =
    let name = c.release_in.ensures.leaves.only.loan in
    let made : IsIndex c.release_in.new.starts (heap_of c.release_in.new.store.bytes.now 0) = c.release_in.ensures.starts in
    search rules
