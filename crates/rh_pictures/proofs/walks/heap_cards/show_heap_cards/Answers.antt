use Rattle.rh_pictures.proofs.Common.{◌≡◌, ◌∙◌, length, take, ap, sym, arith, take_all, heap_seen, scene_at, at-some, band_cards, offered_as}
use Rattle.rh_pictures.proofs.HeapLemmas.{if-heap, band-long, band-many}
use Rattle.rh_pictures.specs.DrawnCards.{cards_text, count_shown}
use Rattle.rh_pictures.specs.Inner.Surveys.{IsSurvey}
use Rattle.rh_pictures.proofs.CardLemmas.{count-few, count-many, count-most, count-within, shown-few, shown-parts, some-count, shown-behind}
use Rattle.rh_pictures.proofs.TextPuts.{text_then}
use Rattle.rh_pictures.proofs.walks.heap_cards.show_heap_cards.Goals as goal

pub show_first-requires-clause-few : goal.show_first-requires-clause-few
show_first-requires-clause-few g c = omega (arith, c.shown_count-shown.ensures, count-most c.take_survey-survey.result.count)

pub show_first-requires-clause-there : goal.show_first-requires-clause-there
show_first-requires-clause-there g c =
    let d = g.S.Sight.desk c.args.sight.now in
    let x = scene_at d c.args.step.now in
    let b = c.args.band.now in
    let s = c.take_survey-survey.result in
    if-heap (heap_seen b.heap d) _ (λ h e.
    let is = at-some (heap_seen b.heap d) (λ z. IsSurvey x b z s) h e c.take_survey-survey.ensures in
    omega (arith, c.shown_count-shown.ensures, count-within s.count, band-many x d b h c.requires.band s is))

pub returns-then-shown-survey : goal.returns-then-shown-survey
returns-then-shown-survey g c =
    let text = g.A.CardArtist.card_text c.args.artist.now in
    let d = g.S.Sight.desk c.args.sight.now in
    let x = scene_at d c.args.step.now in
    let b = c.args.band.now in
    let s = c.take_survey-survey.result in
    if-heap (heap_seen b.heap d) _ (λ h e.
    let cs = band_cards x d b h in
    let is = at-some (heap_seen b.heap d) (λ z. IsSurvey x b z s) h e c.take_survey-survey.ensures in
    let long = band-long x d b h c.requires.band s is in
    let n : c.shown_count-shown.result ≡ count_shown (length cs) = c.shown_count-shown.ensures ∙ ap count_shown long in
    let first = at-some (heap_seen b.heap d) _ h e c.show_first.ensures in
    let few = count-few (length cs) (sym n ∙ (c.if-shown-survey.true ∙ long)) in
    offered_as _ (ap (cards_text text 0) (take_all c.shown_count-shown.result cs (omega (arith, c.if-shown-survey.true, long)) ∙ sym
    (shown-few cs few))) first)

pub show_behind-requires-clause-many : goal.show_behind-requires-clause-many
show_behind-requires-clause-many g c = count-many c.take_survey-survey.result.count (λ q. c.if-shown-survey.false (c.shown_count-shown.ensures ∙ q))

pub returns : goal.returns
returns g c =
    let text = g.A.CardArtist.card_text c.args.artist.now in
    let d = g.S.Sight.desk c.args.sight.now in
    let x = scene_at d c.args.step.now in
    let b = c.args.band.now in
    let s = c.take_survey-survey.result in
    if-heap (heap_seen b.heap d) _ (λ h e.
    let cs = band_cards x d b h in
    let is = at-some (heap_seen b.heap d) (λ z. IsSurvey x b z s) h e c.take_survey-survey.ensures in
    let long = band-long x d b h c.requires.band s is in
    let n : c.shown_count-shown.result ≡ count_shown (length cs) = c.shown_count-shown.ensures ∙ ap count_shown long in
    let first = at-some (heap_seen b.heap d) _ h e c.show_first.ensures in
    let behind = at-some (heap_seen b.heap d) _ h e c.show_behind.ensures in
    let many = count-many (length cs) (λ q. c.if-shown-survey.false (n ∙ (q ∙ sym long))) in
    offered_as _ (sym (ap (cards_text text 0) (shown-parts cs many) ∙ shown-behind text cs many))
    (text_then _ _ _ (offered_as _ (ap
    (λ m. cards_text text 0 (take m cs)) (n ∙ some-count (length cs) many)) first) behind))
