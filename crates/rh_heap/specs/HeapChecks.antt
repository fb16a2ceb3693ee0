-- What is read from a heap's image: its sums, and its segments one after the other.
use Rattle.std.specs.Prelude.{ℕ, ◌+◌, ◌-◌, true, false, List, [], ◌∷◌, length, Option, Some, None, Result, Ok, Err}
use Rattle.rh_defs.specs.Pieces.{total}
use Rattle.rh_defs.specs.Heap.{Used, Hole, Heap, hole_size, base}
use Rattle.rh_defs.specs.Heap as heap
use Rattle.rh_defs.specs.HeapParts.{rest_in}
use Rattle.rh_defs.specs.declared.heap.HeapFault.{HeapFault}
use Rattle.rh_heap.specs.declared.image.segment_iter.SegmentIter.{SegmentIter}
use Rattle.rh_heap.specs.declared.image.Summary.{Summary}
use Rattle.rh_heap.specs.declared.layout.Segment.{Segment}
use Rattle.rh_heap.specs.declared.layout.TheConstants.{BLOCK}

abbrev pub used_count : heap.Segment → ℕ
used_count (Used bytes) = 1
used_count (Hole size) = 0

abbrev pub used_size : heap.Segment → ℕ
used_size (Used bytes) = BLOCK + length bytes
used_size (Hole size) = 0

abbrev pub hole_count : heap.Segment → ℕ
hole_count (Used bytes) = 0
hole_count (Hole size) = 1

-- the sums of a heap
abbrev pub summary_of : Heap → Summary
summary_of h = record {
  used = total used_count h.segments;
  used_bytes = total used_size h.segments;
  holes = total hole_count h.segments;
  hole_bytes = total hole_size h.segments;
  top = h.end - base h;
}

-- the fault that a check answers
abbrev pub fault_in : Result Summary HeapFault → Option HeapFault
fault_in (Ok sums) = None
fault_in (Err fault) = Some fault

-- segments one after the other, with their places
abbrev pub listed : ℕ → List heap.Segment → List Segment
listed place [] = []
listed place (Used bytes ∷ rest) = record { place = place; size = BLOCK + length bytes; used = true } ∷ listed (place + (BLOCK + length bytes)) rest
listed place (Hole size ∷ rest) = record { place = place; size = size; used = false } ∷ listed (place + size) rest

-- those that are left
abbrev pub left : SegmentIter → List Segment
left s = listed s.place (rest_in s.image.now s.base s.from s.place)
