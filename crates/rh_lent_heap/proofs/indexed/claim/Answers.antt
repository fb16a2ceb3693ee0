use Rattle.rh_lent_heap.proofs.Common.{rules, heap_of, bytes, area_set, IsIndex, lent_memory, memory_over, LeavesBytes}
use Rattle.rh_defs.specs.Heap.{claim_block}
use Rattle.rh_lent_heap.proofs.HeapBytes.{is_span, leaves_bytes}
use Rattle.rh_lent_heap.proofs.indexed.claim.Goals as goal

pub claim_in-requires-clause-span : goal.claim_in-requires-clause-span
unfolding lent_memory
claim_in-requires-clause-span c = is_span c.args.memory.now _ c.requires.heap

pub claim_in-requires-clause-starts : goal.claim_in-requires-clause-starts
unfolding lent_memory memory_over bytes area_set
claim_in-requires-clause-starts c = c.requires.starts

pub returns-clause-leaves : goal.returns-clause-leaves
unfolding lent_memory memory_over bytes area_set
returns-clause-leaves c =
    let b = c.args.memory.now in
    let new = c.claim_in.new.store.bytes.now in
    let granted = claim_block c.args.n (heap_of b 0) in
    let name = c.claim_in.ensures.leaves.only.loan in
    let left : LeavesBytes b new granted c.claim_in.result =
    leaves_bytes b new _ _ granted c.claim_in.result c.requires.heap c.claim_in.ensures.leaves in
    search rules

pub returns-clause-starts : goal.returns-clause-starts
unfolding lent_memory memory_over bytes area_set
returns-clause-starts c =
    let name = c.claim_in.ensures.leaves.only.loan in
    let made : IsIndex c.claim_in.new.starts (heap_of c.claim_in.new.store.bytes.now 0) = c.claim_in.ensures.starts in
    search rules
