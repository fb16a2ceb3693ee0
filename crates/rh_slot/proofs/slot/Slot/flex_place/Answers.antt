-- The blocks begin at the heap's end.
use Rattle.rh_slot.proofs.Common.{◌≡◌, ◌+◌, ◌∙◌, ap, arith, heap_place, Heap, slot_in}
use Rattle.rh_slot.proofs.SpanLaws.{is_span_at, heap_at}
use Rattle.rh_slot.proofs.slot.Slot.flex_place.Goals as goal

pub end-requires : goal.end-requires
end-requires g c = is_span_at _ c.args.self _ c.span.ensures c.requires

pub overflow_add-result : goal.overflow_add-result
overflow_add-result g c =
    let e : c.end.result ≡ (slot_in (g.S.Words.memory c.args.store.now) c.args.self).heap.end =
    c.end.ensures ∙ ap (λ (h : Heap). h.end) (heap_at _ c.args.self _ c.span.ensures) in
    let w = c.requires.spells.words.within in
    omega (arith, g.met.S.Words.small c.args.store.now c.args.self.area.0)

pub returns : goal.returns
returns g c = ap (λ i. heap_place + i) (c.end.ensures ∙ ap (λ (h : Heap). h.end) (heap_at _ c.args.self _ c.span.ensures))
