use Rattle.rh_scene.proofs.Common.{◌-◌, List, Segment, heap_seen, heap_start_of, ComesToRest}
use Rattle.rh_scene.proofs.Heaps.{Counted, end_of}
use Rattle.rh_scene.proofs.walk.take_census.Given as goal

-- the segments so far are counted, and the items are the next ones
abbrev pub invariant-places : goal.invariant-places
invariant-places g l =
    (rest : List Segment) → ComesToRest (heap_seen l.heap (g.S.Sight.desk l.sight)) l.place rest →
    Counted (heap_start_of l.heap) l.place l.end l.count l.items.items rest

abbrev pub decreases-places : goal.decreases-places
decreases-places g l = end_of (heap_seen l.heap (g.S.Sight.desk l.sight)) - l.end
