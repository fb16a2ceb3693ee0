use Rattle.rh_pictures.proofs.Common.{◌≡◌, ◌-◌, Some, Heap, heap_seen, heap_start_of, scene_at, is_fresh_card}
use Rattle.rh_scene.proofs.Heaps.{end_of}
use Rattle.rh_pictures.proofs.HeapLemmas.{Surveyed}
use Rattle.rh_pictures.proofs.walks.heap_cards.take_survey.Given as goal

-- the segments so far are surveyed, and the items are the next ones
abbrev pub invariant-places : goal.invariant-places
invariant-places g l =
    let d = g.S.Sight.desk l.sight in
    (h : Heap) → heap_seen l.band.heap d ≡ Some h →
    Surveyed (is_fresh_card (scene_at d l.step) l.band) (heap_start_of l.band.heap) l.place l.survey l.items.items h.segments

abbrev pub decreases-places : goal.decreases-places
decreases-places g l = end_of (heap_seen l.band.heap (g.S.Sight.desk l.sight)) - l.place
