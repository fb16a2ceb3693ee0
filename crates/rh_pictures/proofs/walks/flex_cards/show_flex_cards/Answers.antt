use Rattle.rh_pictures.proofs.Common.{◌≡◌, length, take, ap, sym, ◌∙◌, arith, take_all, block_items, flex_start, flex_cards, scene_at, offered_as}
use Rattle.rh_pictures.proofs.CardLemmas.{flex-long, count-few, count-many, count-within, shown-few, shown-parts, some-count, shown-behind}
use Rattle.rh_pictures.proofs.DrawingLemmas.{seen-same}
use Rattle.rh_pictures.specs.DrawnCards.{cards_text, count_shown}
use Rattle.rh_pictures.proofs.TextPuts.{text_then}
use Rattle.rh_pictures.proofs.walks.flex_cards.show_flex_cards.Goals as goal

pub show_first-requires-clause-few : goal.show_first-requires-clause-few
show_first-requires-clause-few g c = omega (arith, c.shown_count-shown.ensures, count-within (length c.args.blocks.now))

pub returns-then-shown-blocks : goal.returns-then-shown-blocks
returns-then-shown-blocks g c = λ t e.
    let text = g.A.CardArtist.card_text c.args.artist.now in
    let d = g.S.Sight.desk c.args.sight.now in
    let x = scene_at d c.args.step.now in
    let cs = flex_cards x t in
    let r = c.requires.task in
    let are : c.args.blocks.now ≡ block_items t.slot = seen-same (λ u. c.args.blocks.now ≡ block_items u.slot) d.tasks c.args.i r.0 t r.1 e r.3 in
    let long : length cs ≡ length c.args.blocks.now = flex-long x t (flex_start t.slot) t.slot.blocks ∙ ap length (sym are) in
    let n : c.shown_count-shown.result ≡ count_shown (length cs) = c.shown_count-shown.ensures ∙ ap count_shown (sym long) in
    let few = count-few (length cs) (sym n ∙ (c.if-shown-blocks.true ∙ sym long)) in
    offered_as _ (ap (cards_text text 0) (take_all c.shown_count-shown.result cs (omega (arith, c.if-shown-blocks.true, long)) ∙ sym
    (shown-few cs few))) (c.show_first.ensures t e)

pub show_behind-requires-clause-many : goal.show_behind-requires-clause-many
show_behind-requires-clause-many g c = count-many (length c.args.blocks.now) (λ q. c.if-shown-blocks.false (c.shown_count-shown.ensures ∙ q))

pub returns : goal.returns
returns g c = λ t e.
    let text = g.A.CardArtist.card_text c.args.artist.now in
    let d = g.S.Sight.desk c.args.sight.now in
    let x = scene_at d c.args.step.now in
    let cs = flex_cards x t in
    let r = c.requires.task in
    let are : c.args.blocks.now ≡ block_items t.slot = seen-same (λ u. c.args.blocks.now ≡ block_items u.slot) d.tasks c.args.i r.0 t r.1 e r.3 in
    let long : length cs ≡ length c.args.blocks.now = flex-long x t (flex_start t.slot) t.slot.blocks ∙ ap length (sym are) in
    let n : c.shown_count-shown.result ≡ count_shown (length cs) = c.shown_count-shown.ensures ∙ ap count_shown (sym long) in
    let many = count-many (length cs) (λ q. c.if-shown-blocks.false (n ∙ (q ∙ long))) in
    offered_as _ (sym (ap (cards_text text 0) (shown-parts cs many) ∙ shown-behind text cs many))
    (text_then _ _ _ (offered_as _ (ap
    (λ m. cards_text text 0 (take m cs)) (n ∙ some-count (length cs) many)) (c.show_first.ensures t e)) (c.show_behind.ensures t e))
