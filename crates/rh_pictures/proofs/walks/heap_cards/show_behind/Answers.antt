use Rattle.rh_pictures.proofs.Common.{◌≡◌, ◌∙◌, ◌+◌, ◌-◌, [], ◌∷◌, length, ap, sym, arith, heap_seen, heap_start_of, scene_at, at-some, band_cards, offered_as}
use Rattle.rh_pictures.proofs.HeapLemmas.{if-heap, band-heap, band-long, band-none, band-some}
use Rattle.rh_pictures.specs.DrawnCards.{cards_text}
use Rattle.rh_figure.specs.Cards.{more_card}
use Rattle.rh_pictures.specs.Bands.{band_card}
use Rattle.rh_pictures.specs.Inner.Surveys.{IsSurvey}
use Rattle.rh_pictures.proofs.CardLemmas.{behind-are}
use Rattle.rh_pictures.proofs.TextPuts.{text_last, text_then}
use Rattle.rh_pictures.proofs.walks.heap_cards.show_behind.Goals as goal

pub show_segment-requires-clause-segment : goal.show_segment-requires-clause-segment
show_segment-requires-clause-segment g c =
    let d = g.S.Sight.desk c.args.sight.now in
    let x = scene_at d c.args.step.now in
    let b = c.args.band.now in
    let s = c.args.survey.now in
    let there = band-heap d b c.requires.band in
    let is = at-some (heap_seen b.heap d) (λ h. IsSurvey x b h s) there.heap there.is c.requires.survey in
    let p = band-some x d b there.heap c.requires.band s is c.in-Some.item c.in-Some.is there.is in
    (p.place, p.segment, p.has, p.item_is)

pub returns-in-Some : goal.returns-in-Some
returns-in-Some g c =
    let text = g.A.CardArtist.card_text c.args.artist.now in
    let d = g.S.Sight.desk c.args.sight.now in
    let x = scene_at d c.args.step.now in
    let b = c.args.band.now in
    let s = c.args.survey.now in
    if-heap (heap_seen b.heap d) _ (λ h e.
    let cs = band_cards x d b h in
    let is = at-some (heap_seen b.heap d) (λ z. IsSurvey x b z s) h e c.requires.survey in
    let p = band-some x d b h c.requires.band s is c.in-Some.item c.in-Some.is e in
    let long = band-long x d b h c.requires.band s is in
    let card = band_card x d b (heap_start_of b.heap + p.place) p.segment in
    offered_as _ (ap (cards_text text 22) (sym (behind-are cs (card ∷ []) p.first)))
    (text_then (g.P.Pen.offered c.args.pen.now) _ _ (c.show_segment.ensures p.place p.segment p.has p.item_is)
    (text_last (g.P.Pen.offered c.show_segment.new.pen) _
    (offered_as _ (ap (λ m. text (23, more_card (m - 22 - 1))) long) c.others.ensures))))

pub returns-in-None : goal.returns-in-None
returns-in-None g c =
    let text = g.A.CardArtist.card_text c.args.artist.now in
    let d = g.S.Sight.desk c.args.sight.now in
    let x = scene_at d c.args.step.now in
    let b = c.args.band.now in
    let s = c.args.survey.now in
    if-heap (heap_seen b.heap d) _ (λ h e.
    let cs = band_cards x d b h in
    let is = at-some (heap_seen b.heap d) (λ z. IsSurvey x b z s) h e c.requires.survey in
    let none = band-none x d b h c.requires.band s is c.in-None.is in
    let long = band-long x d b h c.requires.band s is in
    let all : length cs - 22 ≡ length cs - 22 - 0 = omega arith in
    offered_as _ (ap (cards_text text 22) (ap (λ m. more_card (m - 22) ∷ []) long ∙ (ap (λ m. more_card m ∷ []) all ∙ sym (behind-are cs [] none))))
    (text_last _ _ c.others-in-None.ensures))
