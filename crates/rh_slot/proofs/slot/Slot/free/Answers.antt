use Rattle.rh_slot.proofs.Common.{◌+◌, refl, ap, no_answer, OnlyArea-from_Edited, slot_in}
use Rattle.rh_slot.proofs.SpanLaws.{budging_same}
use Rattle.rh_slot.proofs.LeaveLaws.{leaves, refuses, then_edited, then_resized}
use Rattle.rh_slot.proofs.FlexLaws.{reach, walked_past, row_above, freed, settled, free_none, free_at}
use Rattle.rh_slot.proofs.slot.Slot.free.Goals as goal

pub top_from-requires-clause-walked : goal.top_from-requires-clause-walked
top_from-requires-clause-walked g c = walked_past _ _ _ _ _ _ c.in-Some.ensures.at c.flex_weight.ensures

pub shift-requires-clause-row : goal.shift-requires-clause-row
shift-requires-clause-row g c =
    let t = c.in-Some.ensures in
    let w = c.flex_weight.ensures in
    row_above _ _ _ _ _ _ _ c.requires.slot.spells.words t (ap (λ w. c.in-Some.spot.place + w) w) (reach _ _ _ _ _ _ _ t.at w c.top_from.ensures)

pub returns-in_default : goal.returns-in_default
returns-in_default g c =
    refuses _ _ _ _ _ (ap no_answer (free_none _ (slot_in (g.S.Words.memory c.args.store.now) c.args.self) c.in_default.ensures)) refl c.requires.slot

pub returns : goal.returns
returns g c =
    let t = c.in-Some.ensures.at in
    let w = c.flex_weight.ensures in
    let from = c.in-Some.spot.place + c.flex_weight.result in
    let f = freed _ _ _ _ _ _ _ _ from _ _ c.requires.slot.spells.words t c.requires.anchor c.word_place.ensures (ap (λ w. c.in-Some.spot.place + w) w)
    (reach _ _ _ _ _ _ _ t w c.top_from.ensures)
    c.shift.ensures.shifted c.shift.ensures.below c.shift.ensures.only.outside.len c.write.ensures.only.outside c.write.ensures.word in
    leaves _ _ _ _ _ tt (ap no_answer (free_at _ _ _ _ _ t)) (budging_same (g.S.Words.memory c.args.store.now) c.args.self)
    (settled _ _ _ _ f.0 f.1 c.trim.ensures.same c.trim.ensures.len)
    (then_resized (then_edited (OnlyArea-from_Edited _ _ _ _ _ c.shift.ensures.only) c.write.ensures.only) c.trim.ensures)
