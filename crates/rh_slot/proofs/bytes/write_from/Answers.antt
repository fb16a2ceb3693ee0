use Rattle.rh_slot.proofs.Common.{refl, arith, Ok, bytes, length-part, part, slot_in}
use Rattle.rh_defs.specs.Places.{buffer_at, written_in}
use Rattle.rh_slot.proofs.ReachLaws.{reached_part, within, landed_spells, landed_budging, landed_shape}
use Rattle.rh_slot.proofs.SpanLaws.{is_span_at}
use Rattle.rh_slot.proofs.WriteLaws.{copied, map_after}
use Rattle.rh_slot.proofs.bytes.write_from.Goals as goal

pub overflow_sub-address : goal.overflow_sub-address
overflow_sub-address g c =
    let r = reached_part _ _ _ _ (bytes (g.S.Words.memory c.args.store.now) c.args.from.0) c.args.place _ c.requires.slot.spells c.requires.fits
    c.requires.reach in
    let w = within _ _ _ _ c.requires.slot.spells r in
    omega (arith, w.low)

pub copy-requires-clause-source : goal.copy-requires-clause-source
copy-requires-clause-source g c = rw c.take_map-map.ensures.same c.requires.source

pub copy-requires-clause-target : goal.copy-requires-clause-target
copy-requires-clause-target g c =
    let n = length-part (bytes (g.S.Words.memory c.args.store.now) c.args.from.0) c.args.place c.args.n in
    let r = reached_part _ _ _ _ (bytes (g.S.Words.memory c.args.store.now) c.args.from.0) c.args.place _ c.requires.slot.spells c.requires.fits
    c.requires.reach in
    let w = within _ _ _ _ c.requires.slot.spells r in
    rw c.take_map-map.ensures.same (omega (arith, w.high))

pub take_map-map-requires : goal.take_map-map-requires
take_map-map-requires g c = is_span_at _ c.args.slot _ c.span.ensures c.requires.slot

pub keep_map-requires-clause-span : goal.keep_map-requires-clause-span
keep_map-requires-clause-span g c =
    let m = g.S.Words.memory c.args.store.now in
    let n = g.S.Words.memory c.copy.new.self in
    let old = slot_in m c.args.slot in
    let xs = part (bytes m c.args.from.0) c.args.place c.args.n in
    let r = reached_part _ _ _ _ (bytes m c.args.from.0) c.args.place _ c.requires.slot.spells c.requires.fits c.requires.reach in
    let s = written_in c.args.address xs (buffer_at c.args.address c.args.room old) old in
    let l = copied m n c.args.slot (Ok (s, tt)) s _ _ refl (landed_budging _ _ _ r) (rw c.take_map-map.ensures.same at c.copy.ensures)
    (landed_spells _ _ _ _ c.requires.slot.spells r) in
    is_span_at n c.args.slot _ c.span-2.ensures l.still

pub keep_map-requires-clause-index : goal.keep_map-requires-clause-index
keep_map-requires-clause-index g c =
    let m = g.S.Words.memory c.args.store.now in
    let n = g.S.Words.memory c.copy.new.self in
    let old = slot_in m c.args.slot in
    let xs = part (bytes m c.args.from.0) c.args.place c.args.n in
    let r = reached_part _ _ _ _ (bytes m c.args.from.0) c.args.place _ c.requires.slot.spells c.requires.fits c.requires.reach in
    let s = written_in c.args.address xs (buffer_at c.args.address c.args.room old) old in
    let l = copied m n c.args.slot (Ok (s, tt)) s _ _ refl (landed_budging _ _ _ r) (rw c.take_map-map.ensures.same at c.copy.ensures)
    (landed_spells _ _ _ _ c.requires.slot.spells r) in
    map_after _ _ m n c.args.slot s _ _ l.slot (landed_shape _ _ _ r) c.span.ensures c.span-2.ensures c.take_map-map.result c.take_map-map.ensures.index

pub returns : goal.returns
returns g c =
    let m = g.S.Words.memory c.args.store.now in
    let n = g.S.Words.memory c.copy.new.self in
    let old = slot_in m c.args.slot in
    let xs = part (bytes m c.args.from.0) c.args.place c.args.n in
    let r = reached_part _ _ _ _ (bytes m c.args.from.0) c.args.place _ c.requires.slot.spells c.requires.fits c.requires.reach in
    let s = written_in c.args.address xs (buffer_at c.args.address c.args.room old) old in
    let l = copied m n c.args.slot (Ok (s, tt)) s _ _ refl (landed_budging _ _ _ r) (rw c.take_map-map.ensures.same at c.copy.ensures)
    (landed_spells _ _ _ _ c.requires.slot.spells r) in
    rw c.keep_map.ensures l
