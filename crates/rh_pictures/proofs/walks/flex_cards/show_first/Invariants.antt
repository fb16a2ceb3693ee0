use Rattle.rh_pictures.proofs.Common.{◌≡◌, drop, take, Some, slice_get, Task, flex_cards, scene_at}
use Rattle.rh_map.proofs.Left.{Left}
use Rattle.rh_pictures.specs.DrawnCards.{cards_text}
use Rattle.rh_pictures.proofs.walks.flex_cards.show_first.Given as goal

-- the cards from the place on are left
abbrev pub invariant-loop-k : goal.invariant-loop-k
invariant-loop-k g l =
    (t : Task) → slice_get (g.S.Sight.desk l.sight).tasks l.i ≡ Some t →
    let cards = take l.shown (flex_cards (scene_at (g.S.Sight.desk l.sight) l.step) t) in
    let text = g.A.CardArtist.card_text l.artist in
    Left (g.P.Pen.offered l.initial.pen) (g.P.Pen.offered l.pen) (cards_text text 0 cards) (cards_text text l.k (drop l.k cards))
