-- The segment that a place lies in.
use Rattle.std.specs.Prelude.{ℕ, ◌+◌, ◌<◌, ◌≤◌}
use Rattle.rh_defs.specs.Heap.{Heap}
use Rattle.rh_heap.specs.declared.span.segments.Spot.{Spot}
use Rattle.rh_heap.specs.Segments.{Met}

-- the segment round a place
pub record Around (at : ℕ) (h : Heap) (target : ℕ) (spot : Spot) : Type 0 where
  pub met : Met at h spot
  pub from_on : spot.place ≤ target
  pub up_to : target < spot.place + spot.size
