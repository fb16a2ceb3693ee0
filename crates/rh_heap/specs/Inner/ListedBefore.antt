-- A walk that lists segments, and how far it has come.
use Rattle.std.specs.Prelude.{◌≡◌, ℕ, List, ◌++◌}
use Rattle.rh_defs.specs.Heap.{Heap}
use Rattle.rh_heap.specs.HeapChecks.{listed}
use Rattle.rh_heap.specs.Segments.{Reached}
use Rattle.rh_heap.specs.declared.layout.Segment.{Segment}

-- A walk has come to a place: what it has listed, and the segments from there on, are all of these.
pub record HasListed (at : ℕ) (h : Heap) (from place : ℕ) (items all : List Segment) : Type 0 where
  pub link : ℕ
  pub low : ℕ
  pub reached : Reached at h link low from place
  pub all_is : items ++ listed place reached.rest ≡ all
