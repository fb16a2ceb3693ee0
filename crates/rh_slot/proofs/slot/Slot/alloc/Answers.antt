use Rattle.rh_slot.proofs.Common.{◌≡◌, ◌⊎◌, ◌≤◌, ◌+◌, ◌*◌, refl, ap, ◌∙◌, arith, inl, inr, cases_lt, wider, PAGE, pages_for, slot_in}
use Rattle.rh_slot.proofs.SpanLaws.{budging_same}
use Rattle.rh_slot.proofs.LeaveLaws.{leaves, refuses, then_edited}
use Rattle.rh_slot.proofs.FlexLaws.{all_cleared, alloced, words_grown, paged, alloc_used, alloc_full, alloc_done, pages_more, has_room, has_none, false-true}
use Rattle.rh_slot.proofs.slot.Slot.alloc.Goals as goal

pub returns-in-Some : goal.returns-in-Some
returns-in-Some g c = refuses _ _ _ _ _ (alloc_used _ _ _ _ _ _ c.in-Some.ensures) refl c.requires.slot

pub returns-in_default-grow_to : goal.returns-in_default-grow_to
returns-in_default-grow_to g c =
    let s = slot_in (g.S.Words.memory c.args.store.now) c.args.self in
    let q = pages_more _ s _ _ _ c.requires.slot.spells.pages c.top-top.ensures c.flex_weight.ensures in
    refuses _ _ _ _ _ (alloc_full _ _ _ s c.in_default.ensures (has_none _ _ _ c.in_default-grow_to.ensures.refused refl q)) c.in_default-grow_to.ensures.err
    c.requires.slot

pub returns : goal.returns
returns g c =
    let s = slot_in (g.S.Words.memory c.args.store.now) c.args.self in
    let r = c.in-Ok.ensures.ok in
    let lb = c.requires.slot.spells.pages in
    let et = c.top-top.ensures in
    let ew = c.flex_weight.ensures in
    let l0 = c.write.ensures.only.outside.len in
    let l1 = c.write-2.ensures.only.outside.len in
    let l2 = c.clear.ensures.only.outside.len in
    let l3 = c.write-3.ensures.only.outside.len in
    let lr = r.len in
    let end = c.len-end.ensures in
    let most = c.min-used.ensures in
    let few : (c.args.n ≡ c.min-used.result) ⊎ (c.len-end.result ≤ c.top-top.result + 8 + c.min-used.result) =
    elim (cases_lt c.min-used.result c.args.n) [ inl h ↦ inr (omega arith) | inr h ↦ inl (omega arith) ] in
    let q = pages_more _ s _ _ _ lb et ew in
    let a = alloced (words_grown _ _ _ c.requires.slot.spells r.same (omega arith)) c.in_default.ensures c.requires.anchor c.word_place-word.ensures et
    (omega arith)
    (record {
      header = c.write.ensures.word;
      only_header = c.write.ensures.only.outside;
      sized = c.write-2.ensures.word;
      only_sized = c.write-2.ensures.only.outside;
      cleared = all_cleared c.top-top.result c.args.n c.min-used.result c.len-end.result (omega arith) few (omega arith) c.write.ensures.only.outside
          c.write-2.ensures.only.outside c.clear.ensures.only.outside c.clear.ensures.block
          (λ place count high inside. c.in-Ok.ensures.zeros place count (omega arith) inside);
      only_cleared = wider c.clear.ensures.only.outside (omega arith) (omega arith);
      hung = c.write-3.ensures.word;
      only_hung = c.write-3.ensures.only.outside;
    }) in
    leaves _ _ _ _ _ _ (alloc_done _ _ _ s (32768 + c.top-top.result + 8) c.in_default.ensures (has_room _ _ _ c.in-Ok.ensures.refused (λ e. false-true e) q)
    (omega (arith, c.top-top.ensures)))
    (budging_same (g.S.Words.memory c.args.store.now) c.args.self)
    (paged _ _ _ a.0 a.1 (l3 ∙ l2 ∙ l1 ∙ l0 ∙ lr ∙ ap (λ i. PAGE * pages_for (c.top-top.result + i)) ew))
    (then_edited (then_edited (then_edited (then_edited r.only c.write.ensures.only) c.write-2.ensures.only) c.clear.ensures.only) c.write-3.ensures.only)
