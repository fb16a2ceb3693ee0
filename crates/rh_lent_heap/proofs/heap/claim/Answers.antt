use Rattle.rh_lent_heap.proofs.Common.{rules, heap_of, bytes, area_set, lent_memory, memory_over, LeavesBytes}
use Rattle.rh_defs.specs.Heap.{claim_block}
use Rattle.rh_lent_heap.proofs.HeapBytes.{is_span, leaves_bytes}
use Rattle.rh_lent_heap.proofs.heap.claim.Goals as goal

pub claim-requires : goal.claim-requires
unfolding lent_memory
claim-requires c = is_span c.args.memory.now _ c.requires

pub returns : goal.returns
unfolding lent_memory memory_over bytes area_set
returns c =
    let b = c.args.memory.now in
    let new = c.claim.new.store.bytes.now in
    let granted = claim_block c.args.n (heap_of b 0) in
    let name = c.claim.ensures.only.loan in
    let left : LeavesBytes b new granted c.claim.result =
    leaves_bytes b new _ _ granted c.claim.result c.requires c.claim.ensures in
    search rules
