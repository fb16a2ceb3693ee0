use Rattle.rh_slot.proofs.Common.{◌+◌, ◌-◌, refl, ap, arith, no_answer, wider, slot_in}
use Rattle.rh_slot.proofs.SpanLaws.{budging_same}
use Rattle.rh_slot.proofs.LeaveLaws.{leaves, refuses, then_edited, then_resized}
use Rattle.rh_slot.proofs.FlexLaws.{reach, walked_past, words_grown, settled, has_room, has_none, false-true}
use Rattle.rh_slot.proofs.EditLaws.{Slid, Splice, row_over, spliced_words, spliced_pages, splice_full, splice_done}
use Rattle.rh_slot.proofs.slot.Slot.splice.Goals as goal

pub top_from-requires-clause-walked : goal.top_from-requires-clause-walked
top_from-requires-clause-walked g c = walked_past _ _ _ _ _ _ c.requires.found.at c.flex_weight.ensures

pub shift-requires-clause-row : goal.shift-requires-clause-row
shift-requires-clause-row g c =
    let t = c.requires.found in
    let r = c.in-Ok.ensures.ok in
    let w = c.flex_weight.ensures in
    let o = c.requires.offset in
    let u = c.requires.out in
    let from = c.args.spot.place + c.flex_weight.result in
    row_over _ _ _ _ _ _ from _ (words_grown _ _ _ c.requires.slot.spells r.same (omega (arith, r.len))) t (ap (λ w. c.args.spot.place + w) w)
    (reach _ _ _ _ _ _ _ t.at w c.top_from.ensures) (wider c.slide.ensures.only.outside (omega arith) (omega arith))

pub returns-in_default : goal.returns-in_default
returns-in_default g c = λ cut t.
    let s = slot_in (g.S.Words.memory c.args.store.now) c.args.self in
    let q = spliced_pages _ s _ _ _ _ _ _ _ _ cut t c.requires.slot.spells.pages c.flex_weight.ensures c.flex_weight-2.ensures c.top_from.ensures in
    refuses _ _ _ _ _ (ap no_answer (splice_full _ _ _ _ cut s (has_none _ _ _ c.in_default.ensures.refused refl q))) c.in_default.ensures.err c.requires.slot

pub returns : goal.returns
returns g c = λ cut t.
    let s = slot_in (g.S.Words.memory c.args.store.now) c.args.self in
    let q = spliced_pages _ s _ _ _ _ _ _ _ _ cut t c.requires.slot.spells.pages c.flex_weight.ensures c.flex_weight-2.ensures c.top_from.ensures in
    let r = c.in-Ok.ensures.ok in
    let lr = r.len in
    let from = c.args.spot.place + c.flex_weight.result in
    let to = c.args.spot.place + c.flex_weight-2.result in
    let n = c.top_from.result - from in
    let ef = ap (λ w. c.args.spot.place + w) c.flex_weight.ensures in
    let et = ap (λ w. c.args.spot.place + w) c.flex_weight-2.ensures in
    let l1 = c.slide.ensures.only.outside.len in
    let l2 = c.shift.ensures.only.outside.len in
    let l3 = c.write.ensures.only.outside.len in
    let l4 = c.slide-2.ensures.only.outside.len in
    let l5 = c.clear.ensures.only.outside.len in
    let outside = c.slide.ensures.only.outside in
    let slid : Slid _ _ _ s _ _ _ from n to cut = record {
      words = words_grown _ _ _ c.requires.slot.spells r.same (omega arith);
      found = t;
      begins = ef;
      ends = reach _ _ _ _ _ _ _ t c.flex_weight.ensures c.top_from.ensures;
      own = wider outside (omega arith) (omega arith);
      shifted = c.shift.ensures.shifted;
      below = c.shift.ensures.below;
    } in
    let at : Splice _ _ _ _ _ to _ _ _ _ = record {
      inside = c.requires.offset;
      enough = c.requires.out;
      new_is = refl;
      to_is = et;
      tail_is = refl;
      opened_is = refl;
      rest_is = refl;
    } in
    let a = spliced_words slid at (record {
      down = c.slide.ensures.carried;
      only_down = outside;
      sized = c.write.ensures.word;
      only_sized = c.write.ensures.only.outside;
      up = c.slide-2.ensures.carried;
      only_up = c.slide-2.ensures.only.outside;
      cleared = c.clear.ensures.block;
      only_cleared = c.clear.ensures.only.outside;
    }) (omega arith) in
    leaves _ _ _ _ _ tt (ap no_answer (splice_done _ _ _ _ cut s (has_room _ _ _ c.in-Ok.ensures.refused (λ e. false-true e) q)))
    (budging_same (g.S.Words.memory c.args.store.now) c.args.self)
    (settled _ _ _ _ a.0 a.1 c.trim.ensures.same c.trim.ensures.len)
    (then_resized (then_edited (then_edited (then_edited (then_edited (then_edited r.only c.slide.ensures.only) c.shift.ensures.only) c.write.ensures.only)
    c.slide-2.ensures.only) c.clear.ensures.only) c.trim.ensures)
