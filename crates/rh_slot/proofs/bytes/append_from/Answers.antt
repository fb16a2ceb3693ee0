use Rattle.rh_slot.proofs.Common.{◌≡◌, ◌+◌, ◌-◌, length, refl, sym, ap, ◌∙◌, arith, part, with_part, SameIn, no_answer, Memory, bytes}
use Rattle.rh_slot.proofs.Common.{flex_weight, flex_place, heap_place, length-part, SameOutside-self, bytes-with_bytes, part_of, in_below, in_both, slot_in}
use Rattle.rh_slot.proofs.AppendLaws.{append_none, append_full, append_done, appended_words, appended_pages, source_inside, source_stays}
use Rattle.rh_slot.proofs.AreaLaws.{Edited-put}
use Rattle.rh_slot.proofs.EditLaws.{row_over}
use Rattle.rh_slot.proofs.FlexLaws.{reach, walked_past, words_grown, paged, has_room, has_none, false-true}
use Rattle.rh_slot.proofs.LeaveLaws.{leaves, refuses, then_edited}
use Rattle.rh_slot.proofs.SpanLaws.{budging_same}
use Rattle.rh_slot.proofs.bytes.append_from.Goals as goal

pub returns-in_default : goal.returns-in_default
returns-in_default g c =
    refuses _ _ _ _ _ (ap no_answer (append_none _ _ _ (slot_in (g.S.Words.memory c.args.store.now) c.args.slot) c.in_default.ensures)) refl c.requires.slot

pub top_from-requires-clause-walked : goal.top_from-requires-clause-walked
top_from-requires-clause-walked g c = walked_past _ _ _ _ _ _ c.in-Some.ensures.at c.flex_weight.ensures

pub returns-in_default-room_for : goal.returns-in_default-room_for
returns-in_default-room_for g c =
    let s = slot_in (g.S.Words.memory c.args.store.now) c.args.slot in
    let t = c.in-Some.ensures in
    let l = length-part (bytes (g.S.Words.memory c.args.store.now) c.args.from.0) c.args.place c.args.n in
    let q = appended_pages _ s _ _ _ _ _ _ _ t.cut t.at c.requires.slot.spells.pages c.flex_weight.ensures
    (c.flex_weight-2.ensures ∙ ap (λ i. flex_weight (c.in-Some.spot.size + i)) (sym l)) c.top_from.ensures in
    refuses _ _ _ _ _ (ap no_answer (append_full _ _ _ s _ _ t.cut t.at (has_none _ _ _ c.in_default-room_for.ensures.refused refl q)))
    c.in_default-room_for.ensures.err c.requires.slot

pub shift-requires-clause-row : goal.shift-requires-clause-row
shift-requires-clause-row g c =
    let t = c.in-Some.ensures in
    let r = c.in-Ok.ensures.ok in
    let w = c.flex_weight.ensures in
    let from = c.in-Some.spot.place + c.flex_weight.result in
    let b = bytes (g.S.Words.memory c.room_for.new.store) c.args.slot.area.0 in
    row_over b b _ _ _ _ from _ (words_grown _ _ _ c.requires.slot.spells r.same (omega (arith, r.len))) t (ap (λ w. c.in-Some.spot.place + w) w)
    (reach _ _ _ _ _ _ _ t.at w c.top_from.ensures) (SameOutside-self b (c.in-Some.spot.place + 8) from)

pub copy-requires-clause-source : goal.copy-requires-clause-source
copy-requires-clause-source g c =
    let r = c.in-Ok.ensures.ok in
    let only = then_edited (then_edited r.only c.shift.ensures.only) c.write.ensures.only in
    source_inside _ _ _ _ _ _ only (omega (arith, r.len, c.shift.ensures.only.outside.len, c.write.ensures.only.outside.len)) c.requires.source

pub returns : goal.returns
returns g c =
    let m = g.S.Words.memory c.args.store.now in
    let id = c.args.slot.area.0 in
    let s = slot_in m c.args.slot in
    let t = c.in-Some.ensures in
    let r = c.in-Ok.ensures.ok in
    let place = c.in-Some.spot.place in
    let size = c.in-Some.spot.size in
    let xs = part (bytes m c.args.from.0) c.args.place c.args.n in
    let lx : length xs ≡ c.args.n = length-part (bytes m c.args.from.0) c.args.place c.args.n in
    let from = place + c.flex_weight.result in
    let to = place + c.flex_weight-2.result in
    let n = c.top_from.result - from in
    let low = t.at.low in
    let weighs : c.flex_weight-2.result ≡ flex_weight (size + length xs) = c.flex_weight-2.ensures ∙ ap (λ i. flex_weight (size + i)) (sym lx) in
    let q = appended_pages _ s _ _ _ _ _ _ _ t.cut t.at c.requires.slot.spells.pages c.flex_weight.ensures weighs c.top_from.ensures in
    let edits = then_edited (then_edited r.only c.shift.ensures.only) c.write.ensures.only in
    let stays : SameIn (bytes m id) (bytes (g.S.Words.memory c.write.new.store) id) heap_place (flex_place s) =
    in_both (part_of r.same (omega arith) (omega (arith, c.requires.slot.spells.words.within)))
    (in_both (part_of c.shift.ensures.below (omega arith) (omega arith)) (in_below c.write.ensures.only.outside (omega arith))) in
    let src = source_stays _ _ _ _ _ _ _ edits stays c.requires.above c.requires.below in
    let e : bytes (g.S.Words.memory c.copy.new.self) id ≡ with_part (bytes (g.S.Words.memory c.write.new.store) id) (place + 8 + size) xs =
    ap (λ (r : Memory). bytes r id) c.copy.ensures ∙ bytes-with_bytes _ id _
    ∙ ap (λ ys. with_part (bytes (g.S.Words.memory c.write.new.store) id) (place + 8 + size) ys) src in
    let copied = Edited-put _ _ id (place + 8 + size) (place + 8 + size + c.args.n) _ c.copy.ensures
    (omega (arith, length-part (bytes (g.S.Words.memory c.write.new.store) c.args.from.0) c.args.place c.args.n)) in
    let a = appended_words _ _ _ _ s _ place size from n to t.cut xs (words_grown _ _ _ c.requires.slot.spells r.same (omega (arith, r.len))) t.at
    (ap (λ w. place + w) c.flex_weight.ensures) (reach _ _ _ _ _ _ _ t.at c.flex_weight.ensures c.top_from.ensures) (ap (λ w. place + w) weighs)
    c.shift.ensures.shifted c.shift.ensures.below (omega (arith, copied.outside.len, c.write.ensures.only.outside.len, c.shift.ensures.only.outside.len, r.len))
    (c.write.ensures.word ∙ ap (λ i. size + i) (sym lx)) c.write.ensures.only.outside e in
    leaves _ _ _ _ _ tt (ap no_answer (append_done _ _ _ s _ _ t.cut t.at (has_room _ _ _ c.in-Ok.ensures.refused (λ e. false-true e) q)))
    (budging_same m c.args.slot)
    (paged _ _ _ a.0 a.1 (omega
    (arith, copied.outside.len, c.write.ensures.only.outside.len, c.shift.ensures.only.outside.len, r.len, c.requires.slot.spells.pages)))
    (then_edited edits copied)
