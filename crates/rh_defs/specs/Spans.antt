-- The spans of live blocks: where each one lies in its slot. Read Slot first.
-- A place is an address here. s is a slot, h the module area's heap, b a flex block, a and b in *IsApart* are spans.
use Rattle.std.specs.Prelude.{ℕ, ◌+◌, ◌≤◌, ◌⊎◌, List, [], ◌∷◌, ◌++◌, length}
use Rattle.std.specs.List.{AllByRecursion}
use Rattle.rh_defs.specs.Heap.{Heap, Segment, Used, Hole, first_place}
use Rattle.rh_defs.specs.Slot.{Slot, Flex, weight, heap_start, flex_start}
use Rattle.rh_defs.specs.Desk.{module_start}

-- a block's address and its size
pub record Span : Type 0 where
  pub start : ℕ
  pub size : ℕ

-- the spans of flex blocks that lie one after the other from a place on
abbrev pub flex_spans : ℕ → List Flex → List Span
flex_spans place [] = []
flex_spans place (b ∷ blocks) = record { start = place + 8; size = length b.bytes } ∷ flex_spans (place + weight b) blocks

-- the spans of the blocks of a heap's segments that lie one after the other from a place on
abbrev pub heap_spans : ℕ → List Segment → List Span
heap_spans place [] = []
heap_spans place (Used bytes ∷ segments) = record { start = place + 4; size = length bytes } ∷ heap_spans (place + (4 + length bytes)) segments
heap_spans place (Hole size ∷ segments) = heap_spans (place + size) segments

-- the live blocks of a slot: those of the C heap, and the flex blocks
abbrev pub slot_spans : Slot → List Span
slot_spans s = heap_spans (heap_start + first_place) s.heap.segments ++ flex_spans (flex_start s) s.blocks

-- the live blocks of the module area
abbrev pub module_spans : Heap → List Span
module_spans h = heap_spans (module_start + first_place) h.segments

-- two spans share no byte
abbrev pub IsApart : Span → Span → Type 0
IsApart a b = (a.start + a.size ≤ b.start) ⊎ (b.start + b.size ≤ a.start)

-- no two spans of the list share one
abbrev pub AreApart : List Span → Type 0
AreApart [] = Unit {0}
AreApart (a ∷ spans) = AllByRecursion (IsApart a) spans × AreApart spans

-- a span that lies whole in a range of addresses
abbrev pub IsWithin : ℕ → ℕ → Span → Type 0
IsWithin from to a = (from ≤ a.start) × (a.start + a.size ≤ to)

-- spans that lie in an area of so many bytes, apart
pub record AreLaidOut (from bytes : ℕ) (spans : List Span) : Type 0 where
  pub apart : AreApart spans
  pub within : AllByRecursion (IsWithin from (from + bytes)) spans
