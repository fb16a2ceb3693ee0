use Rattle.rh_pictures.proofs.Common.{◌≡◌, Some, drop, take, heap_seen, scene_at, band_cards}
use Rattle.rh_map.proofs.Left.{Left}
use Rattle.rh_pictures.specs.DrawnCards.{cards_text}
use Rattle.rh_defs.specs.Heap.{Heap}
use Rattle.rh_pictures.proofs.walks.heap_cards.show_first.Given as goal

-- the cards from the place on are left
abbrev pub invariant-loop-k : goal.invariant-loop-k
invariant-loop-k g l =
    let d = g.S.Sight.desk l.sight in
    (h : Heap) → heap_seen l.band.heap d ≡ Some h →
    Left (g.P.Pen.offered l.initial.pen) (g.P.Pen.offered l.pen)
    (cards_text (g.A.CardArtist.card_text l.artist) 0 (take l.shown (band_cards (scene_at d l.step) d l.band h)))
    (cards_text (g.A.CardArtist.card_text l.artist) l.k (drop l.k (take l.shown (band_cards (scene_at d l.step) d l.band h))))
