use Rattle.rh_tasks.proofs.Common.{◌+◌, ◌-◌, ◌≤◌, ◌∙◌, ap, refl, arith, length, err_from_is_err_and, left_of, no_answer, heap_start, slot_in}
use Rattle.rh_defs.proofs.ShapeLaws.{poked-shape}
use Rattle.rh_slot.proofs.EditLaws.{beyond}
use Rattle.rh_slot.proofs.LeaveLaws.{refuses}
use Rattle.rh_slot.proofs.SpanLaws.{is_span, span_of}
use Rattle.rh_slot.proofs.WriteLaws.{map_after}
use Rattle.rh_tasks.proofs.BlockWrites.{bytes-low, bytes-stand, new, slot-beyond, slot-granted, slot-leaves, slot-nowhere}
use Rattle.rh_tasks.proofs.SightLaws.{sized-bytes, unsized-block}
use Rattle.rh_tasks.proofs.block_bytes.write_in_heap.Goals as goal

pub returns-in_err-size : goal.returns-in_err-size
returns-in_err-size g c =
    let s = slot_in (g.S.Words.memory c.args.store.now) c.args.slot in
    let p = err_from_is_err_and c.from_residual.result c.from_residual.ensures.1 in
    let absent = unsized-block _ s.heap _ c.in_err-size.ensures in
    rw (p.1, p.2, absent.1)
    (refuses _ _ _ _ _ (ap no_answer (slot-nowhere c.args.address c.args.offset c.args.from.now s absent.0)) refl c.requires)

pub returns-then-not-fits : goal.returns-then-not-fits
returns-then-not-fits g c =
    let s = slot_in (g.S.Words.memory c.args.store.now) c.args.slot in
    let some = sized-bytes _ s.heap c.in_ok-size.size c.in_ok-size.ensures in
    let short = beyond _ _ _ c.fits.ensures c.if-not-fits.true in
    refuses _ _ _ _ _ (ap no_answer (slot-beyond c.args.address c.args.offset c.args.from.now s some.0 some.1.0 (omega (arith, short, some.1.1)))) refl
    c.requires

pub take_map-map-requires : goal.take_map-map-requires
take_map-map-requires g c = is_span (g.S.Words.memory c.args.store.now) c.args.slot c.requires

pub overflow_sub-address : goal.overflow_sub-address
overflow_sub-address g c =
    let m = g.S.Words.memory c.args.store.now in
    let some = sized-bytes _ (slot_in m c.args.slot).heap c.in_ok-size.size c.in_ok-size.ensures in
    let fits = c.fits.ensures.0 c.if-not-fits.false in
    omega (
      arith,
      bytes-low m c.args.slot c.args.address c.args.offset (length c.args.from.now) some.0 c.requires some.1.0 (omega (arith, fits, some.1.1)),
    )

pub overflow_add-address : goal.overflow_add-address
overflow_add-address g c =
    let m = g.S.Words.memory c.args.store.now in
    let some = sized-bytes _ (slot_in m c.args.slot).heap c.in_ok-size.size c.in_ok-size.ensures in
    let fits = c.fits.ensures.0 c.if-not-fits.false in
    let stands = bytes-stand m c.args.slot c.args.address c.args.offset (length c.args.from.now) some.0 c.requires some.1.0 (omega (arith, fits, some.1.1)) in
    omega (arith, stands.high, g.met.S.Words.small c.args.store.now c.args.slot.area.0)

pub copy_in-requires-clause-within : goal.copy_in-requires-clause-within
copy_in-requires-clause-within g c =
    let m = g.S.Words.memory c.args.store.now in
    let some = sized-bytes _ (slot_in m c.args.slot).heap c.in_ok-size.size c.in_ok-size.ensures in
    let fits = c.fits.ensures.0 c.if-not-fits.false in
    rw c.take_map-map.ensures.same
    (bytes-stand m c.args.slot c.args.address c.args.offset (length c.args.from.now) some.0 c.requires some.1.0 (omega (arith, fits, some.1.1))).high

pub keep_map-requires-clause-span : goal.keep_map-requires-clause-span
keep_map-requires-clause-span g c =
    let m = g.S.Words.memory c.args.store.now in
    let n = g.S.Words.memory c.copy_in.new.self in
    let some = sized-bytes _ (slot_in m c.args.slot).heap c.in_ok-size.size c.in_ok-size.ensures in
    let fits = c.fits.ensures.0 c.if-not-fits.false in
    let l = slot-leaves m c.args.slot c.args.address c.args.offset some.0 c.args.from.now c.requires some.1.0 (omega (arith, fits, some.1.1)) n
    (rw c.take_map-map.ensures.same at c.copy_in.ensures) in
    is_span n c.args.slot l.still

pub keep_map-requires-clause-index : goal.keep_map-requires-clause-index
keep_map-requires-clause-index g c =
    let m = g.S.Words.memory c.args.store.now in
    let n = g.S.Words.memory c.copy_in.new.self in
    let h = (slot_in m c.args.slot).heap in
    let some = sized-bytes _ h c.in_ok-size.size c.in_ok-size.ensures in
    let fits = c.fits.ensures.0 c.if-not-fits.false in
    let room : c.args.offset + length c.args.from.now ≤ length some.0 = omega (arith, fits, some.1.1) in
    let s = new m c.args.slot c.args.address c.args.offset some.0 c.args.from.now c.requires some.1.0 room in
    let l = slot-leaves m c.args.slot c.args.address c.args.offset some.0 c.args.from.now c.requires some.1.0 room n
    (rw c.take_map-map.ensures.same at c.copy_in.ensures) in
    let is = l.slot ∙ ap (left_of (slot_in m c.args.slot))
    (slot-granted m c.args.slot c.args.address c.args.offset some.0 c.args.from.now c.requires some.1.0 room) in
    map_after _ _ m n c.args.slot s (span_of c.args.slot) (span_of c.args.slot) is (poked-shape (c.args.address - heap_start) c.args.offset c.args.from.now h)
    refl refl c.take_map-map.result c.take_map-map.ensures.index

pub returns : goal.returns
returns g c =
    let m = g.S.Words.memory c.args.store.now in
    let n = g.S.Words.memory c.copy_in.new.self in
    let some = sized-bytes _ (slot_in m c.args.slot).heap c.in_ok-size.size c.in_ok-size.ensures in
    let fits = c.fits.ensures.0 c.if-not-fits.false in
    rw c.keep_map.ensures
    (slot-leaves m c.args.slot c.args.address c.args.offset some.0 c.args.from.now c.requires some.1.0 (omega (arith, fits, some.1.1)) n
    (rw c.take_map-map.ensures.same at c.copy_in.ensures))
