-- What was listed, 64 segments at most, and the segments from the place on are all from the target on.
use Rattle.rh_heap.proofs.Common.{◌-◌, ◌≤◌, length, segment_at, heap_in, listed}
use Rattle.rh_heap.specs.Listed.{from_cut}
use Rattle.rh_heap.specs.Inner.ListedBefore.{HasListed}
use Rattle.rh_defs.specs.declared.sizes.TheConstants.{SEGMENTS_AT_ONCE}
use Rattle.rh_heap.proofs.span.list.segments_from.Given as goal

abbrev pub invariant-walk : goal.invariant-walk
invariant-walk g l =
    let h = heap_in (g.S.Words.memory l.store) l.span in
    record {
      few : length l.segments.items ≤ SEGMENTS_AT_ONCE;
      lists : HasListed l.span.at h l.from l.place l.segments.items (listed l.fn.place (from_cut (segment_at l.fn.place h)));
    }

abbrev pub decreases-walk : goal.decreases-walk
decreases-walk g l = l.base - l.place
