-- The shortage is made up, and then the heap's claim is done.
use Rattle.rh_slot.proofs.Common.{◌≡◌, ◌≢◌, refl, arith, err_from_is_err_and, claim_growing, need, slot_in, lengthened}
use Rattle.rh_slot.proofs.SpanLaws.{is_span_at, heap_at, is_slot, budging_same}
use Rattle.rh_slot.proofs.LeaveLaws.{refuses}
use Rattle.rh_slot.proofs.GrowLaws.{need_most}
use Rattle.rh_slot.proofs.CHeapLaws.{claim_refused, claim_needs, claim_stopped, claimed, claim_is_done, claim_longer, claim_low, address_low}
use Rattle.rh_slot.proofs.slot.Slot.claim_growing.Goals as goal
use Rattle.rh_slot.proofs.slot.Slot.claim_growing.Goals.{In_ok-shortage}
use Rattle.rh_slot.proofs.slot.Slot.claim_growing.Given as given

-- what the heap is short of
needs : (g : given.Over) (c : In_ok-shortage g) → let s =
    slot_in (g.S.Words.memory c.args.store.now) c.args.self in (c.args.n ≢ 0) × (c.in_ok-shortage.shortage ≡ need c.args.n s.heap)
needs g c = claim_needs c.args.n c.in_ok-shortage.shortage (slot_in (g.S.Words.memory c.args.store.now) c.args.self) _
    (heap_at (g.S.Words.memory c.args.store.now) c.args.self _ c.span.ensures) c.in_ok-shortage.ensures

pub need-requires : goal.need-requires
need-requires g c = is_span_at _ c.args.self _ c.span.ensures c.requires.slot

pub returns-in_err-shortage : goal.returns-in_err-shortage
returns-in_err-shortage g c =
    let m = g.S.Words.memory c.args.store.now in
    let p = err_from_is_err_and c.from_residual.result c.from_residual.ensures.1 in
    rw (p.1, p.2) (refuses _ _ _ _ _ (claim_refused m.free c.args.n (slot_in m c.args.self) _ _ (heap_at _ c.args.self _ c.span.ensures)
    c.in_err-shortage.ensures) refl c.requires.slot)

pub make_room-requires-clause-small : goal.make_room-requires-clause-small
make_room-requires-clause-small g c =
    let s = slot_in (g.S.Words.memory c.args.store.now) c.args.self in
    let w = needs g (goal.at.make_room-requires-clause-small g c).In_ok-shortage in
    let f = c.requires.slot.spells.words.heap.heap.fits in
    let r = c.ranges.n.fits in
    omega (arith, need_most c.args.n s.heap f, w.1)

pub returns-in_err-make_room : goal.returns-in_err-make_room
returns-in_err-make_room g c =
    let m = g.S.Words.memory c.args.store.now in
    let w = needs g (goal.at.returns-in_err-make_room g c).In_ok-shortage in
    let p = err_from_is_err_and c.from_residual-in_err-make_room.result c.from_residual-in_err-make_room.ensures.1 in
    rw (p.1, p.2) (refuses _ _ _ _ _ (claim_stopped m.free c.args.n _ (slot_in m c.args.self) _ w c.in_err-make_room.ensures.answer)
    c.in_err-make_room.ensures.err c.requires.slot)

pub claim-requires : goal.claim-requires
claim-requires g c =
    let s = slot_in (g.S.Words.memory c.args.store.now) c.args.self in
    is_span_at _ c.args.self _ c.span-2.ensures (is_slot _ c.args.self (lengthened c.in_ok-shortage.shortage s) c.in_ok-make_room.ensures.only.opened
    c.in_ok-make_room.ensures.spells)

pub unwrap-address-requires : goal.unwrap-address-requires
unwrap-address-requires g c =
    let w = needs g (goal.at.unwrap-address-requires g c).In_ok-shortage in
    claim_is_done (g.S.Words.memory c.args.store.now) _ _ c.args.self _ c.args.n c.in_ok-make_room.ensures.spells w.0 w.1
    (rw c.span-2.ensures at c.claim.ensures)

pub overflow_add-result : goal.overflow_add-result
overflow_add-result g c =
    let s = slot_in (g.S.Words.memory c.args.store.now) c.args.self in
    let w = needs g (goal.at.overflow_add-result g c).In_ok-shortage in
    let low = claim_low c.args.n s.heap in
    let answer = rw (c.span-2.ensures, c.unwrap-address.ensures) at c.claim.ensures.answer in
    let at = address_low (claim_growing c.args.n s.heap) _ c.unwrap-address.result
    (claim_longer (g.S.Words.memory c.make_room.new.store) c.args.self s c.in_ok-shortage.shortage c.args.n c.in_ok-make_room.ensures.spells
    (budging_same (g.S.Words.memory c.args.store.now) c.args.self) w.0 w.1)
    answer in
    let f = c.requires.slot.spells.words.heap.heap.fits in
    let i = c.requires.slot.spells.words.within in
    omega (arith, g.met.S.Words.small c.args.store.now c.args.self.area.0)

pub returns : goal.returns
returns g c =
    let m = g.S.Words.memory c.args.store.now in
    let w = needs g (goal.at.returns g c).In_ok-shortage in
    let k = g.S.Words.memory c.make_room.new.store in
    let l = rw (c.span-2.ensures, c.unwrap-address.ensures) at c.claim.ensures in
    claimed m k _ c.args.self c.in_ok-shortage.shortage c.args.n c.unwrap-address.result c.in_ok-make_room.ensures.spells w.0 w.1
    c.in_ok-make_room.ensures.answer l c.in_ok-make_room.ensures.only
