use Rattle.rh_heap.proofs.Common.{◌+◌, ◌-◌, sym, ap, ◌∙◌, arith, ◌&&◌, is_inside, heap_in}
use Rattle.rh_heap.proofs.HoldLaws.{held_below, held_above, held_here}
use Rattle.rh_heap.proofs.span.segments.holds.Goals.{then-address-via-then-address, then-address-via-else-address+then-read-address}
use Rattle.rh_heap.proofs.span.segments.holds.Goals as goal

pub returns-then-address : goal.returns-then-address
returns-then-address g c = elim c.then-address.branch [
  | then-address-via-then-address w ↦ sym (held_below (heap_in (g.S.Words.memory c.args.store.now) c.args.span) _ _ w.if-address.true)
  | then-address-via-else-address+then-read-address w ↦ sym (held_above _ _ _ _ _ _ c.requires.spells w.read.ensures.value w.if-read-address.true)
]

pub returns-then-spot : goal.returns-then-spot
returns-then-spot g c =
    let spot = c.segment_around-spot.result in
    let least = c.if-address.false in
    c.is_inside.ensures
    ∙ sym (held_here _ _ _ c.args.n spot c.requires.spells.heap.tidy (omega arith) c.segment_around-spot.ensures
    ∙ ap (λ u. u && is_inside c.args.address c.args.n (spot.place + 4) (spot.size - 4)) c.if-spot.true)

pub returns-else-spot : goal.returns-else-spot
returns-else-spot g c =
    let spot = c.segment_around-spot.result in
    let least = c.if-address.false in
    c.if-spot.false
    ∙ sym (held_here _ _ _ c.args.n spot c.requires.spells.heap.tidy (omega arith) c.segment_around-spot.ensures
    ∙ ap (λ u. u && is_inside c.args.address c.args.n (spot.place + 4) (spot.size - 4)) c.if-spot.false)
