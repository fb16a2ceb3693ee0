use Rattle.rh_lent_heap.proofs.Common.{rules, subst, ℤ, w32, to_z-of_z, heap_of, bytes, area_set, LeavesHeap, IsIndex, lent_memory, memory_over, LeavesBytes}
use Rattle.rh_defs.specs.Heap.{resize_block}
use Rattle.rh_lent_heap.proofs.HeapBytes.{whole, is_span, leaves_bytes}
use Rattle.rh_lent_heap.proofs.indexed.resize.Goals as goal

pub resize_in-requires-clause-span : goal.resize_in-requires-clause-span
unfolding lent_memory
resize_in-requires-clause-span c = is_span c.args.memory.now _ c.requires.heap

pub resize_in-requires-clause-starts : goal.resize_in-requires-clause-starts
unfolding lent_memory memory_over bytes area_set
resize_in-requires-clause-starts c = c.requires.starts

pub returns-clause-leaves : goal.returns-clause-leaves
unfolding lent_memory memory_over bytes area_set
returns-clause-leaves c =
    let b = c.args.memory.now in
    let new = c.resize_in.new.store.bytes.now in
    let granted = resize_block c.args.address c.args.delta (heap_of b 0) in
    let name = c.resize_in.ensures.leaves.only.loan in
    let left : LeavesBytes b new granted c.resize_in.result =
    leaves_bytes b new _ _ granted c.resize_in.result c.requires.heap (subst (λ (d : ℤ). LeavesHeap (memory_over b c.store-1.given)
    (memory_over new c.resize_in.new.store.bytes.ghost_name) whole (resize_block c.args.address d (heap_of b 0)) c.resize_in.result)
    (to_z-of_z w32 c.args.delta c.ranges.delta) c.resize_in.ensures.leaves) in
    search rules

pub returns-clause-starts : goal.returns-clause-starts
unfolding lent_memory memory_over bytes area_set
returns-clause-starts c =
    let name = c.resize_in.ensures.leaves.only.loan in
    let made : IsIndex c.resize_in.new.starts (heap_of c.resize_in.new.store.bytes.now 0) = c.resize_in.ensures.starts in
    search rules
