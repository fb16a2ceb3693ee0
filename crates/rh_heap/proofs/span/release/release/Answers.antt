use Rattle.rh_heap.proofs.Common.{refl, ap, subst, no_answer, release_block, released_at-some, SpellsHeapIn, heap_in}
use Rattle.rh_defs.proofs.HeapCalls.{released_at-none}
use Rattle.rh_heap.proofs.CallLaws.{leaves, refuses}
use Rattle.rh_heap.proofs.span.release.release.Goals as goal

pub returns-in_default : goal.returns-in_default
returns-in_default g c = refuses _ _ _ _ _ (ap no_answer (released_at-none c.args.address (heap_in (g.S.Words.memory c.args.store.now) c.args.span)
    c.in_default.ensures)) refl c.requires

pub returns : goal.returns
returns g c =
    let h = heap_in (g.S.Words.memory c.args.store.now) c.args.span in
    let f = c.in-Some.ensures in
    leaves _ _ _ _ _ tt (ap no_answer (released_at-some c.args.address h _ f.found))
    (subst (λ a. SpellsHeapIn (g.S.Words.memory c.free_segment.new.store) c.args.span (release_block a h)) f.address_is c.free_segment.ensures.spells)
    c.free_segment.ensures.only
