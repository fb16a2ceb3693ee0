use Rattle.rh_heap.proofs.Common.{◌≡◌, refl, ap, ◌∙◌, arith, w32, to_z-of_z, no_answer, moved, Edited-wider, heap_in}
use Rattle.rh_defs.proofs.HeapCalls.{extend-low, extend-done}
use Rattle.rh_heap.proofs.CallLaws.{leaves, refuses}
use Rattle.rh_heap.proofs.SizeLaws.{extend_spells}
use Rattle.rh_heap.proofs.span.whole.extend_heap.Goals as goal
use Rattle.rh_heap.proofs.span.whole.extend_heap.Goals.{After-moved-end}
use Rattle.rh_heap.proofs.span.whole.extend_heap.Given as given

-- what the code has moved is the heap's end
end_is : (g : given.Over) (c : After-moved-end g) → c.moved-end.result ≡ moved (heap_in (g.S.Words.memory c.args.store.now) c.args.span).end c.args.delta
end_is g c =
    c.moved-end.ensures.value ∙ ap (λ d. moved c.read.result d) (to_z-of_z w32 c.args.delta c.ranges.delta)
    ∙ ap (λ n. moved n c.args.delta) (c.read.ensures.value ∙ c.requires.span.spells.last)

pub returns-then-end-read : goal.returns-then-end-read
returns-then-end-read g c =
    let e = end_is g (goal.at.returns-then-end-read g c).After-moved-end in
    let b = c.read-2.ensures.value ∙ c.requires.span.spells.base in
    refuses _ _ _ _ _ (ap no_answer (extend-low c.args.delta (heap_in (g.S.Words.memory c.args.store.now) c.args.span) (omega arith))) refl c.requires.span

pub returns : goal.returns
returns g c =
    let h = heap_in (g.S.Words.memory c.args.store.now) c.args.span in
    let e = end_is g (goal.at.returns g c).After-moved-end in
    let b = c.read-2.ensures.value ∙ c.requires.span.spells.base in
    let fits = c.requires.span.spells.heap.fits in
    leaves _ _ _ _ _ tt (ap no_answer (extend-done c.args.delta h (omega arith)))
    (extend_spells _ _ _ _ _ _ _ _ c.requires.span.spells c.read.ensures.value
    (c.moved-end.ensures.value ∙ ap (λ d. moved c.read.result d) (to_z-of_z w32 c.args.delta c.ranges.delta))
    c.requires.multiple c.requires.within c.read-2.ensures.value c.if-end-read.false c.write.ensures.only.outside c.write.ensures.value)
    (Edited-wider _ _ _ _ _ _ _ c.write.ensures.only (omega arith) (omega arith))
