-- The hole that a walk over a heap's holes found.
use Rattle.std.specs.Prelude.{◌≡◌, ℕ, ◌+◌, ◌≤◌, ◌%◌, List, ◌∷◌, ◌++◌, Some}
use Rattle.rh_defs.specs.Pieces.{total}
use Rattle.rh_defs.specs.Heap.{Segment, Hole, Heap, size_of, base, hole_for}
use Rattle.rh_defs.specs.HeapParts.{last_link}
use Rattle.rh_heap.specs.declared.span.holes.Gap.{Gap}
use Rattle.rh_defs.specs.declared.sizes.TheConstants.{HEAP_FIRST, HEAP_FREE, HEAP_UNIT, WORD}

-- the first hole with room for a segment of t bytes
pub record FoundHole (at : ℕ) (h : Heap) (t : ℕ) (gap : Gap) : Type 0 where
  pub before : List Segment
  pub after : List Segment
  pub is : h.segments ≡ before ++ Hole gap.size ∷ after
  pub found : hole_for t h.segments ≡ Some (record { before = before; here = Hole gap.size; after = after })
  pub link : at + gap.from ≡ last_link (at + HEAP_FREE) (at + HEAP_FIRST) before
  pub place_is : gap.place ≡ HEAP_FIRST + total size_of before
  pub fits : t ≤ gap.size
  pub behind : gap.from + WORD ≤ gap.place
  pub inside : gap.place + gap.size ≤ base h
  pub least : HEAP_UNIT ≤ gap.size
  pub multiple : gap.size % HEAP_UNIT ≡ 0
