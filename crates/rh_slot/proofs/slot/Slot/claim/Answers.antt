-- The heap as it is grants the claim, or all is asked again.
use Rattle.std.proofs.Common.{arith}
use Rattle.rh_slot.proofs.SpanLaws.{is_span_at}
use Rattle.rh_slot.proofs.CHeapLaws.{claimed_here, claimed_low}
use Rattle.rh_slot.proofs.slot.Slot.claim.Goals as goal

pub claim-requires : goal.claim-requires
claim-requires g c = is_span_at _ c.args.self _ c.span.ensures c.requires.slot

pub overflow_add-result : goal.overflow_add-result
overflow_add-result g c =
    let k = c.requires.slot.spells.words in
    let fits = k.heap.heap.fits in
    let within = k.within in
    omega (arith, claimed_low _ _ c.args.self _ c.span.ensures c.requires.slot _ _ c.in-Ok.ensures, g.met.S.Words.small c.args.store.now c.args.self.area.0)

pub returns-in-Ok : goal.returns-in-Ok
returns-in-Ok g c = claimed_here _ _ c.args.self _ c.span.ensures c.requires.slot _ _ c.in-Ok.ensures
