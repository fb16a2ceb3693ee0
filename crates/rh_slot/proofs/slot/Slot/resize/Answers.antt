-- The heap as it is grants the resize, or all is asked again.
use Rattle.rh_slot.proofs.Common.{arith, to_z-of_z, w32}
use Rattle.rh_slot.proofs.SpanLaws.{is_span_at}
use Rattle.rh_slot.proofs.CHeapLaws.{resized_here, resized_low_here}
use Rattle.rh_slot.proofs.slot.Slot.resize.Goals as goal

pub resize-requires : goal.resize-requires
resize-requires g c = is_span_at _ c.args.self _ c.span.ensures c.requires.slot

pub overflow_add-result : goal.overflow_add-result
overflow_add-result g c =
    let l = rw (to_z-of_z w32 c.args.delta c.ranges.delta) at c.in-Ok.ensures in
    let k = c.requires.slot.spells.words in
    let fits = k.heap.heap.fits in
    let within = k.within in
    omega (arith, resized_low_here _ _ c.args.self _ c.span.ensures c.requires.slot _ _ _ l, g.met.S.Words.small c.args.store.now c.args.self.area.0)

pub returns-in-Ok : goal.returns-in-Ok
returns-in-Ok g c =
    let l = rw (to_z-of_z w32 c.args.delta c.ranges.delta) at c.in-Ok.ensures in
    resized_here _ _ c.args.self _ c.span.ensures c.requires.slot _ _ _ l _ c.saturating_sub-place.ensures
