use Rattle.rh_scene.proofs.Common.{◌≡◌, ◌-◌, Some, Heap, heap_seen, heap_start_of}
use Rattle.rh_scene.proofs.Heaps.{end_of}
use Rattle.rh_scene.proofs.SegmentFinds.{Looked}
use Rattle.rh_scene.proofs.segments.segment_over.Given as goal

-- none of the segments so far is the one, and the items are the next ones
abbrev pub invariant-places : goal.invariant-places
invariant-places g l =
    (h : Heap) → heap_seen l.heap (g.S.Sight.desk l.sight) ≡ Some h →
    Looked l.address (heap_start_of l.heap) l.place l.items.items h.segments

abbrev pub decreases-places : goal.decreases-places
decreases-places g l = end_of (heap_seen l.heap (g.S.Sight.desk l.sight)) - l.place
