use Rattle.rh_lent_heap.proofs.Common.{rules, ◌≡◌, ◌+◌, ◌≤◌, length, arith, heap_of, bytes}
use Rattle.rh_lent_heap.proofs.Common.{area_set, lent_memory, memory_over, subst, sym, ◌%◌, ℤ, w32, to_z-of_z}
use Rattle.rh_lent_heap.proofs.Common.{LeavesHeap, no_answer, LeavesBytes}
use Rattle.rh_defs.specs.Heap.{extend_by}
use Rattle.rh_defs.specs.Pieces.{moved}
use Rattle.rh_lent_heap.proofs.HeapBytes.{whole, is_span, leaves_bytes}
use Rattle.rh_lent_heap.proofs.heap.extend_heap.Goals as goal

pub extend_heap-requires-clause-span : goal.extend_heap-requires-clause-span
unfolding lent_memory
extend_heap-requires-clause-span c = is_span c.args.memory.now _ c.requires.bytes

pub extend_heap-requires-clause-multiple : goal.extend_heap-requires-clause-multiple
unfolding lent_memory memory_over bytes area_set
extend_heap-requires-clause-multiple c =
    subst (λ (d : ℤ). moved (heap_of c.args.memory.now 0).end d % 8 ≡ 0)
    (sym (to_z-of_z w32 c.args.delta c.ranges.delta)) c.requires.multiple

pub extend_heap-requires-clause-within : goal.extend_heap-requires-clause-within
unfolding lent_memory memory_over bytes area_set
extend_heap-requires-clause-within c =
    subst (λ (d : ℤ). 0 + moved (heap_of c.args.memory.now 0).end d ≤ length c.args.memory.now)
    (sym (to_z-of_z w32 c.args.delta c.ranges.delta)) (let w = c.requires.within in omega arith)

pub returns : goal.returns
unfolding lent_memory memory_over bytes area_set
returns c =
    let b = c.args.memory.now in
    let new = c.extend_heap.new.store.bytes.now in
    let granted = no_answer (extend_by c.args.delta (heap_of b 0)) in
    let name = c.extend_heap.ensures.only.loan in
    let left : LeavesBytes b new granted c.extend_heap.result =
    leaves_bytes b new _ _ granted c.extend_heap.result c.requires.bytes (subst (λ (d : ℤ). LeavesHeap (memory_over b c.store-1.given)
    (memory_over new c.extend_heap.new.store.bytes.ghost_name) whole (no_answer (extend_by d (heap_of b 0))) c.extend_heap.result)
    (to_z-of_z w32 c.args.delta c.ranges.delta) c.extend_heap.ensures) in
    search rules
