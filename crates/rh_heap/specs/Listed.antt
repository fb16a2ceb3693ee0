-- The segments of a heap from a place on.
use Rattle.std.specs.Prelude.{ℕ, List, [], ◌∷◌, take, Option, Some, None}
use Rattle.rh_defs.specs.Pieces.{Split}
use Rattle.rh_defs.specs.Heap as heap
use Rattle.rh_defs.specs.Heap.{Heap, segment_at}
use Rattle.rh_heap.specs.HeapChecks.{listed}
use Rattle.rh_heap.specs.declared.layout.Segment.{Segment}
use Rattle.rh_defs.specs.declared.sizes.TheConstants.{SEGMENTS_AT_ONCE}

-- the segment at a cut and those behind it
abbrev pub from_cut : Option (Split heap.Segment) → List heap.Segment
from_cut None = []
from_cut (Some s) = s.here ∷ s.after

-- up to 64 segments from the one that begins at a place on
abbrev pub segments_from : ℕ → Heap → List Segment
segments_from place h = take SEGMENTS_AT_ONCE (listed place (from_cut (segment_at place h)))
