use Rattle.rh_slot.proofs.Common.{refl, arith, Ok, slot_in}
use Rattle.rh_defs.specs.Places.{written_held}
use Rattle.rh_slot.proofs.ReachLaws.{held_lands, within, landed_spells, landed_budging, landed_shape}
use Rattle.rh_slot.proofs.SpanLaws.{is_span_at}
use Rattle.rh_slot.proofs.WriteLaws.{copied, map_after}
use Rattle.rh_slot.proofs.bytes.write_at.Goals as goal

pub overflow_sub-address : goal.overflow_sub-address
overflow_sub-address g c =
    let w = within _ _ _ _ c.requires.slot.spells (held_lands _ _ c.args.from.now c.requires.held) in
    omega (arith, w.low)

pub take_map-map-requires : goal.take_map-map-requires
take_map-map-requires g c = is_span_at _ c.args.slot _ c.span.ensures c.requires.slot

pub copy_in-requires-clause-within : goal.copy_in-requires-clause-within
copy_in-requires-clause-within g c =
    let w = within _ _ _ _ c.requires.slot.spells (held_lands _ _ c.args.from.now c.requires.held) in
    rw c.take_map-map.ensures.same (omega (arith, w.high))

pub keep_map-requires-clause-span : goal.keep_map-requires-clause-span
keep_map-requires-clause-span g c =
    let m = g.S.Words.memory c.args.store.now in
    let n = g.S.Words.memory c.copy_in.new.self in
    let s = written_held c.args.address c.args.from.now (slot_in m c.args.slot) in
    let r = held_lands _ _ c.args.from.now c.requires.held in
    let l = copied m n c.args.slot (Ok (s, tt)) s _ _ refl (landed_budging _ _ _ r) (rw c.take_map-map.ensures.same at c.copy_in.ensures)
    (landed_spells _ _ _ _ c.requires.slot.spells r) in
    is_span_at n c.args.slot _ c.span-2.ensures l.still

pub keep_map-requires-clause-index : goal.keep_map-requires-clause-index
keep_map-requires-clause-index g c =
    let m = g.S.Words.memory c.args.store.now in
    let n = g.S.Words.memory c.copy_in.new.self in
    let s = written_held c.args.address c.args.from.now (slot_in m c.args.slot) in
    let r = held_lands _ _ c.args.from.now c.requires.held in
    let l = copied m n c.args.slot (Ok (s, tt)) s _ _ refl (landed_budging _ _ _ r) (rw c.take_map-map.ensures.same at c.copy_in.ensures)
    (landed_spells _ _ _ _ c.requires.slot.spells r) in
    map_after _ _ m n c.args.slot s _ _ l.slot (landed_shape _ _ _ r) c.span.ensures c.span-2.ensures c.take_map-map.result c.take_map-map.ensures.index

pub returns : goal.returns
returns g c =
    let m = g.S.Words.memory c.args.store.now in
    let n = g.S.Words.memory c.copy_in.new.self in
    let s = written_held c.args.address c.args.from.now (slot_in m c.args.slot) in
    let r = held_lands _ _ c.args.from.now c.requires.held in
    let l = copied m n c.args.slot (Ok (s, tt)) s _ _ refl (landed_budging _ _ _ r) (rw c.take_map-map.ensures.same at c.copy_in.ensures)
    (landed_spells _ _ _ _ c.requires.slot.spells r) in
    rw c.keep_map.ensures l
