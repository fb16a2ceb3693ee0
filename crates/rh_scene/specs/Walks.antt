-- Walks over the segments of a heap.
use Rattle.std.specs.Prelude.{◌≡◌, ℕ, ◌+◌, List, ◌++◌, length, Option, Some}
use Rattle.rh_defs.specs.Pieces.{total}
use Rattle.rh_defs.specs.Heap.{Segment, Heap, size_of, place_after}
pub use Rattle.rh_figure.specs.HeapSegments.{item_end}
use Rattle.rh_scene.specs.declared.walk.Census.{Census}

-- of a heap that may be there, these segments lie from the place on
pub record ComesToRest (h : Option Heap) (place : ℕ) (rest : List Segment) : Type 0 where
  pub heap : Heap
  pub is : h ≡ Some heap
  pub below : List Segment
  pub whole : heap.segments ≡ below ++ rest
  pub at : place ≡ place_after below

-- how many segments these are that lie from a place on, and where the last ends
abbrev pub census_of : ℕ → List Segment → Census
census_of place rest = record { count = length rest; end = place + total size_of rest }
