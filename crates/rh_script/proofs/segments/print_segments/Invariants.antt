use Rattle.rh_script.proofs.Common.{◌≡◌, ◌-◌, segment_items_at, heap_of_named}
use Rattle.rh_script.proofs.SegmentLemmas.{Walked}
use Rattle.rh_script.proofs.segments.print_segments.Given as goal

-- the segments below the place were written, and the items are those from there on
abbrev pub invariant-places : goal.invariant-places
invariant-places g l =
    let h = heap_of_named l.name l.world.desk in
    record {
      walked : Walked h.segments l.place (g.P.Pen.offered l.initial.pen) (g.P.Pen.offered l.pen);
      items_are : l.items.items ≡ segment_items_at l.place h;
    }

abbrev pub decreases-places : goal.decreases-places
decreases-places g l = (heap_of_named l.name l.world.desk).end - l.place
