-- The shortage is made up, and then the heap's resize is done.
use Rattle.rh_slot.proofs.Common.{sym, ap, refl, arith, to_z-of_z, err_from_is_err_and, w32, block_at, slot_in, lengthened}
use Rattle.rh_defs.specs.Heap.{resize_growing, new_size}
use Rattle.rh_slot.proofs.SpanLaws.{is_span_at, heap_at, is_slot, budging_same}
use Rattle.rh_slot.proofs.LeaveLaws.{refuses}
use Rattle.rh_slot.proofs.CHeapLaws.{Resizes, need_found_ok, resize_refused, resize_stopped, resize_most, resized_there, resize_is_done, resize_longer}
use Rattle.rh_slot.proofs.CHeapLaws.{resize_low, address_low}
use Rattle.rh_slot.proofs.slot.Slot.resize_growing.Goals as goal
use Rattle.rh_slot.proofs.slot.Slot.resize_growing.Goals.{In_ok-shortage}
use Rattle.rh_slot.proofs.slot.Slot.resize_growing.Given as given

-- the block, and what the heap is short of for it
found : (g : given.Over) (c : In_ok-shortage g)
    → let s = slot_in (g.S.Words.memory c.args.store.now) c.args.self in
    Resizes c.args.delta (block_at c.saturating_sub-place.result s.heap) s.heap c.in_ok-shortage.shortage
found g c =
    let s = slot_in (g.S.Words.memory c.args.store.now) c.args.self in
    let z = to_z-of_z w32 c.args.delta c.ranges.delta in
    need_found_ok c.args.delta (block_at c.saturating_sub-place.result s.heap) s.heap c.in_ok-shortage.shortage
    (rw (z, heap_at (g.S.Words.memory c.args.store.now) c.args.self _ c.span.ensures) at c.in_ok-shortage.ensures)

pub resize_need-requires : goal.resize_need-requires
resize_need-requires g c = is_span_at _ c.args.self _ c.span.ensures c.requires.slot

pub returns-in_err-shortage : goal.returns-in_err-shortage
returns-in_err-shortage g c =
    let m = g.S.Words.memory c.args.store.now in
    let s = slot_in m c.args.self in
    let z = to_z-of_z w32 c.args.delta c.ranges.delta in
    let p = err_from_is_err_and c.from_residual.result c.from_residual.ensures.1 in
    rw (p.1, p.2)
    (refuses _ _ _ _ _ (resize_refused m.free c.args.address c.args.delta s (block_at c.saturating_sub-place.result s.heap) _
    (ap (λ i. block_at i s.heap) (sym c.saturating_sub-place.ensures)) (rw (z, heap_at m c.args.self _ c.span.ensures) at
    c.in_err-shortage.ensures)) refl c.requires.slot)

pub make_room-requires-clause-small : goal.make_room-requires-clause-small
make_room-requires-clause-small g c =
    let s = slot_in (g.S.Words.memory c.args.store.now) c.args.self in
    let t = found g (goal.at.make_room-requires-clause-small g c).In_ok-shortage in
    let k = c.requires.slot.spells.words in
    let fits = k.heap.heap.fits in
    let within = k.within in
    omega (arith, resize_most c.args.delta _ c.in_ok-shortage.shortage s.heap t c.ranges.delta fits, g.met.S.Words.small c.args.store.now c.args.self.area.0)

pub returns-in_err-make_room : goal.returns-in_err-make_room
returns-in_err-make_room g c =
    let m = g.S.Words.memory c.args.store.now in
    let t = found g (goal.at.returns-in_err-make_room g c).In_ok-shortage in
    let p = err_from_is_err_and c.from_residual-in_err-make_room.result c.from_residual-in_err-make_room.ensures.1 in
    rw (p.1, p.2) (refuses _ _ _ _ _ (resize_stopped m.free c.args.address _ _ c.args.delta (slot_in m c.args.self) _ t c.saturating_sub-place.ensures
    c.in_err-make_room.ensures.answer) c.in_err-make_room.ensures.err c.requires.slot)

pub resize-requires : goal.resize-requires
resize-requires g c =
    let s = slot_in (g.S.Words.memory c.args.store.now) c.args.self in
    is_span_at _ c.args.self _ c.span-2.ensures (is_slot _ c.args.self (lengthened c.in_ok-shortage.shortage s) c.in_ok-make_room.ensures.only.opened
    c.in_ok-make_room.ensures.spells)

pub unwrap-address-requires : goal.unwrap-address-requires
unwrap-address-requires g c =
    let z = to_z-of_z w32 c.args.delta c.ranges.delta in
    let t = found g (goal.at.unwrap-address-requires g c).In_ok-shortage in
    resize_is_done (g.S.Words.memory c.args.store.now) _ _ c.args.self _ _ c.args.delta t c.in_ok-make_room.ensures.spells
    (rw (z, c.span-2.ensures) at c.resize.ensures)

pub overflow_add-result : goal.overflow_add-result
overflow_add-result g c =
    let s = slot_in (g.S.Words.memory c.args.store.now) c.args.self in
    let z = to_z-of_z w32 c.args.delta c.ranges.delta in
    let t = found g (goal.at.overflow_add-result g c).In_ok-shortage in
    let low = resize_low c.args.delta _ c.in_ok-shortage.shortage s.heap t in
    let answer = rw (z, c.span-2.ensures, c.unwrap-address.ensures) at c.resize.ensures.answer in
    let at = address_low (resize_growing (new_size c.args.delta t.block) t.block s.heap) _ c.unwrap-address.result
    (resize_longer (g.S.Words.memory c.make_room.new.store) c.args.self s c.in_ok-shortage.shortage _ c.args.delta t c.in_ok-make_room.ensures.spells
    (budging_same (g.S.Words.memory c.args.store.now) c.args.self))
    answer in
    let k = c.requires.slot.spells.words in
    let fits = k.heap.heap.fits in
    let within = k.within in
    omega (arith, g.met.S.Words.small c.args.store.now c.args.self.area.0)

pub returns : goal.returns
returns g c =
    let m = g.S.Words.memory c.args.store.now in
    let k = g.S.Words.memory c.make_room.new.store in
    let z = to_z-of_z w32 c.args.delta c.ranges.delta in
    let t = found g (goal.at.returns g c).In_ok-shortage in
    let l = rw (z, c.span-2.ensures, c.unwrap-address.ensures) at c.resize.ensures in
    resized_there m k _ c.args.self c.in_ok-shortage.shortage _ c.args.address c.args.delta c.unwrap-address.result t c.saturating_sub-place.ensures
    c.in_ok-make_room.ensures.spells c.in_ok-make_room.ensures.answer l c.in_ok-make_room.ensures.only
