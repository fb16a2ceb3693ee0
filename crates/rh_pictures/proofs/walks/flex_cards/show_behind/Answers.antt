use Rattle.rh_pictures.proofs.Common.{◌≡◌, ◌<◌, ◌-◌, [], ◌∷◌, Some, length, ap, ap₂, sym, ◌∙◌, arith, slice_get, BlockItem, block_items, flex_start, flex_cards}
use Rattle.rh_pictures.proofs.Common.{IsTaskSeen, scene_at, offered_as}
use Rattle.rh_pictures.proofs.CardLemmas.{flex-long, behind-are, flex-picked, flex-unpicked}
use Rattle.rh_pictures.proofs.DrawingLemmas.{seen-same}
use Rattle.rh_pictures.specs.DrawnCards.{cards_text}
use Rattle.rh_pictures.specs.Inner.CardsBehind.{place_behind}
use Rattle.std.proofs.lemmas.Option.{slice_get-get_or}
use Rattle.rh_figure.specs.Cards.{more_card}
use Rattle.rh_figure.specs.Layout.{is_fresh_flex}
use Rattle.rh_pictures.proofs.TextPuts.{text_last, text_then}
use Rattle.rh_pictures.proofs.walks.flex_cards.show_behind.Goals as goal

pub offset_bounds-blocks-k : goal.offset_bounds-blocks-k
offset_bounds-blocks-k g c =
    let d = g.S.Sight.desk c.args.sight.now in
    let x = scene_at d c.args.step.now in
    let r = c.requires.task in
    let are : c.args.blocks.now ≡ block_items r.0.slot = seen-same (λ u. c.args.blocks.now ≡ block_items u.slot) d.tasks c.args.i r.0 r.0 r.1 r.1 r.3 in
    let seen = seen-same (IsTaskSeen c.args.task.now) d.tasks c.args.i r.0 r.0 r.1 r.1 r.2 in
    let cs = flex_cards x r.0 in
    let long : length cs ≡ length c.args.blocks.now = flex-long x r.0 (flex_start r.0.slot) r.0.slot.blocks ∙ ap length (sym are) in
    let found = ap₂ (λ h bs. place_behind (λ (b : BlockItem). is_fresh_flex x h b.anchor b.size) 22 bs) (sym seen.handle) (sym are) ∙ (sym
    (c.next_fresh.ensures d) ∙ c.in-Some.is) in
    let k = c.in-Some.k in
    let p = flex-picked x r.0 k found in
    let low : k < length c.args.blocks.now = omega (arith, p.low, long) in
    omega (arith, c.requires.few)

pub bounds-blocks-k : goal.bounds-blocks-k
bounds-blocks-k g c =
    let d = g.S.Sight.desk c.args.sight.now in
    let x = scene_at d c.args.step.now in
    let r = c.requires.task in
    let are : c.args.blocks.now ≡ block_items r.0.slot = seen-same (λ u. c.args.blocks.now ≡ block_items u.slot) d.tasks c.args.i r.0 r.0 r.1 r.1 r.3 in
    let seen = seen-same (IsTaskSeen c.args.task.now) d.tasks c.args.i r.0 r.0 r.1 r.1 r.2 in
    let cs = flex_cards x r.0 in
    let long : length cs ≡ length c.args.blocks.now = flex-long x r.0 (flex_start r.0.slot) r.0.slot.blocks ∙ ap length (sym are) in
    let found = ap₂ (λ h bs. place_behind (λ (b : BlockItem). is_fresh_flex x h b.anchor b.size) 22 bs) (sym seen.handle) (sym are) ∙ (sym
    (c.next_fresh.ensures d) ∙ c.in-Some.is) in
    let k = c.in-Some.k in
    let p = flex-picked x r.0 k found in
    let low : k < length c.args.blocks.now = omega (arith, p.low, long) in
    omega arith

pub show_flex-requires-clause-block : goal.show_flex-requires-clause-block
show_flex-requires-clause-block g c =
    let d = g.S.Sight.desk c.args.sight.now in
    let x = scene_at d c.args.step.now in
    let r = c.requires.task in
    let are : c.args.blocks.now ≡ block_items r.0.slot = seen-same (λ u. c.args.blocks.now ≡ block_items u.slot) d.tasks c.args.i r.0 r.0 r.1 r.1 r.3 in
    let seen = seen-same (IsTaskSeen c.args.task.now) d.tasks c.args.i r.0 r.0 r.1 r.1 r.2 in
    let cs = flex_cards x r.0 in
    let long : length cs ≡ length c.args.blocks.now = flex-long x r.0 (flex_start r.0.slot) r.0.slot.blocks ∙ ap length (sym are) in
    let found = ap₂ (λ h bs. place_behind (λ (b : BlockItem). is_fresh_flex x h b.anchor b.size) 22 bs) (sym seen.handle) (sym are) ∙ (sym
    (c.next_fresh.ensures d) ∙ c.in-Some.is) in
    let k = c.in-Some.k in
    let p = flex-picked x r.0 k found in
    let low : k < length c.args.blocks.now = omega (arith, p.low, long) in (
      r.0,
      k,
      r.1,
      r.2,
      ap (λ bs. slice_get bs k) (sym are) ∙ (slice_get-get_or c.args.blocks.now k c.index-blocks-k.result low ∙ ap (λ z. Some z)
          (sym c.index-blocks-k.is)),
    )

pub returns-in-Some : goal.returns-in-Some
returns-in-Some g c = λ t e.
    let text = g.A.CardArtist.card_text c.args.artist.now in
    let d = g.S.Sight.desk c.args.sight.now in
    let x = scene_at d c.args.step.now in
    let r = c.requires.task in
    let are : c.args.blocks.now ≡ block_items t.slot = seen-same (λ u. c.args.blocks.now ≡ block_items u.slot) d.tasks c.args.i r.0 t r.1 e r.3 in
    let seen = seen-same (IsTaskSeen c.args.task.now) d.tasks c.args.i r.0 t r.1 e r.2 in
    let cs = flex_cards x t in
    let long : length cs ≡ length c.args.blocks.now = flex-long x t (flex_start t.slot) t.slot.blocks ∙ ap length (sym are) in
    let found = ap₂ (λ h bs. place_behind (λ (b : BlockItem). is_fresh_flex x h b.anchor b.size) 22 bs) (sym seen.handle) (sym are) ∙ (sym
    (c.next_fresh.ensures d) ∙ c.in-Some.is) in
    let k = c.in-Some.k in
    let p = flex-picked x t k found in
    let low : k < length c.args.blocks.now = omega (arith, p.low, long) in
    let listed = ap (λ bs. slice_get bs k) (sym are) ∙ (slice_get-get_or c.args.blocks.now k c.index-blocks-k.result low ∙ ap (λ z. Some z)
    (sym c.index-blocks-k.is)) in
    offered_as _ (ap (cards_text text 22) (sym (behind-are cs (p.card ∷ []) p.first)))
    (text_then (g.P.Pen.offered c.args.pen.now) _ _ (c.show_flex.ensures t k p.card e listed p.at)
    (text_last (g.P.Pen.offered c.show_flex.new.pen) _
    (offered_as _ (ap (λ m. text (23, more_card (m - 22 - 1))) (sym long)) c.others.ensures)))

pub returns-in-None : goal.returns-in-None
returns-in-None g c = λ t e.
    let text = g.A.CardArtist.card_text c.args.artist.now in
    let d = g.S.Sight.desk c.args.sight.now in
    let x = scene_at d c.args.step.now in
    let r = c.requires.task in
    let are : c.args.blocks.now ≡ block_items t.slot = seen-same (λ u. c.args.blocks.now ≡ block_items u.slot) d.tasks c.args.i r.0 t r.1 e r.3 in
    let seen = seen-same (IsTaskSeen c.args.task.now) d.tasks c.args.i r.0 t r.1 e r.2 in
    let cs = flex_cards x t in
    let long : length cs ≡ length c.args.blocks.now = flex-long x t (flex_start t.slot) t.slot.blocks ∙ ap length (sym are) in
    let found = ap₂ (λ h bs. place_behind (λ (b : BlockItem). is_fresh_flex x h b.anchor b.size) 22 bs) (sym seen.handle) (sym are) ∙ (sym
    (c.next_fresh.ensures d) ∙ c.in-None.is) in
    let none = flex-unpicked x t found in
    let all : length cs - 22 ≡ length cs - 22 - 0 = omega arith in
    offered_as _ (ap (cards_text text 22) (ap (λ m. more_card (m - 22) ∷ []) (sym long) ∙ (ap (λ m. more_card m ∷ []) all ∙ sym
    (behind-are cs [] none)))) (text_last _ _ c.others-in-None.ensures)
