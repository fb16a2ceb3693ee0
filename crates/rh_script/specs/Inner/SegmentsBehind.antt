-- The segments of a named task's C heap, and where they end.
use Rattle.std.specs.Prelude.{ℕ, ◌+◌, List}
use Rattle.rh_defs.specs.declared.question.SegmentItem.{SegmentItem}
use Rattle.rh_defs.specs.declared.question.SegmentItem.TheVariants as segment
use Rattle.rh_defs.specs.Heap.{first_place}
use Rattle.rh_defs.specs.Slot.{heap_start}
use Rattle.rh_defs.specs.Desk.{Desk}
use Rattle.rh_defs.specs.Questions.{segment_items_from}
use Rattle.rh_script.specs.NamedSlots.{heap_of_named}

-- the C heap's segments from below
abbrev pub segments_of_named : List ℕ → Desk → List SegmentItem
segments_of_named name d = segment_items_from (heap_start + first_place) (heap_of_named name d).segments

-- the address behind a segment
abbrev pub item_end : SegmentItem → ℕ
item_end (segment.Used address size) = address + size
item_end (segment.Hole address size) = address + size
