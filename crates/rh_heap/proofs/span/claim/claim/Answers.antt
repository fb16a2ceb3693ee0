use Rattle.rh_heap.proofs.Common.{refl, heap_in}
use Rattle.rh_heap.proofs.CallLaws.{leaves, refuses}
use Rattle.rh_heap.proofs.ClaimLaws.{claim_zero, claim_answered, claim_refused}
use Rattle.rh_heap.proofs.span.claim.claim.Goals as goal

pub returns-then-n-eq0 : goal.returns-then-n-eq0
returns-then-n-eq0 g c = refuses _ _ _ _ _ (claim_zero c.args.n (heap_in (g.S.Words.memory c.args.store.now) c.args.span) c.if-n-eq0.true) refl c.requires

pub returns-in-Some : goal.returns-in-Some
returns-in-Some g c =
    let t = c.in-Some.ensures.took in
    leaves _ _ _ _ _ _ (claim_answered c.args.n (heap_in (g.S.Words.memory c.args.store.now) c.args.span) _ _ c.if-n-eq0.false c.segment_size.ensures.size
    t.room t.address_is) t.spells c.in-Some.ensures.only

pub returns-in-None : goal.returns-in-None
returns-in-None g c =
    let t = c.in-None.ensures.took in
    refuses _ _ _ _ _ (claim_refused c.args.n (heap_in (g.S.Words.memory c.args.store.now) c.args.span) _ c.if-n-eq0.false c.segment_size.ensures.size t.0)
    t.1 c.requires
