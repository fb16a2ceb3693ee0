use Rattle.rh_heap.specs.HeapSpans.{heap_in}
use Rattle.rh_heap.proofs.CallLaws.{leaves}
use Rattle.rh_heap.proofs.ClaimLaws.{claim_answered}
use Rattle.rh_heap.proofs.span.indexed.claim_by.Goals as goal

pub returns-in-Some-clause-leaves : goal.returns-in-Some-clause-leaves
returns-in-Some-clause-leaves g c =
    let t = c.in-Some.ensures.took in
    leaves _ _ _ _ _ _ (claim_answered c.args.n (heap_in (g.S.Words.memory c.args.store.now) c.args.span) _ _ c.if-n-eq0.false c.segment_size.ensures.size
    t.room t.address_is) t.spells c.in-Some.ensures.only
