use Rattle.rh_lent_heap.proofs.Common.{rules, heap_of, bytes, area_set, lent_memory, memory_over, subst, ℤ, w32, to_z-of_z, LeavesHeap, LeavesBytes}
use Rattle.rh_defs.specs.Heap.{resize_block}
use Rattle.rh_lent_heap.proofs.HeapBytes.{whole, is_span, leaves_bytes}
use Rattle.rh_lent_heap.proofs.heap.resize.Goals as goal

pub resize-requires : goal.resize-requires
unfolding lent_memory
resize-requires c = is_span c.args.memory.now _ c.requires

pub returns : goal.returns
unfolding lent_memory memory_over bytes area_set
returns c =
    let b = c.args.memory.now in
    let new = c.resize.new.store.bytes.now in
    let granted = resize_block c.args.address c.args.delta (heap_of b 0) in
    let name = c.resize.ensures.only.loan in
    let left : LeavesBytes b new granted c.resize.result =
    leaves_bytes b new _ _ granted c.resize.result c.requires (subst (λ (d : ℤ). LeavesHeap (memory_over b c.store-1.given)
    (memory_over new c.resize.new.store.bytes.ghost_name) whole (resize_block c.args.address d (heap_of b 0)) c.resize.result)
    (to_z-of_z w32 c.args.delta c.ranges.delta) c.resize.ensures) in
    search rules
