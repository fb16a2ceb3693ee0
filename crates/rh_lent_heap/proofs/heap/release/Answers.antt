use Rattle.rh_lent_heap.proofs.Common.{rules, heap_of, bytes, area_set, lent_memory, memory_over, no_answer, LeavesBytes}
use Rattle.rh_defs.specs.Heap.{released_at}
use Rattle.rh_lent_heap.proofs.HeapBytes.{is_span, leaves_bytes}
use Rattle.rh_lent_heap.proofs.heap.release.Goals as goal

pub release-requires : goal.release-requires
unfolding lent_memory
release-requires c = is_span c.args.memory.now _ c.requires

pub returns : goal.returns
unfolding lent_memory memory_over bytes area_set
returns c =
    let b = c.args.memory.now in
    let new = c.release.new.store.bytes.now in
    let granted = no_answer (released_at c.args.address (heap_of b 0)) in
    let name = c.release.ensures.only.loan in
    let left : LeavesBytes b new granted c.release.result =
    leaves_bytes b new _ _ granted c.release.result c.requires c.release.ensures in
    search rules
