-- What is asked of a named task's blocks and segments, many at once.
use Rattle.std.specs.Prelude.{ℕ, ◌+◌, List, take, Ok}
use Rattle.rh_defs.specs.Chain.{Granted, ◌>>=◌}
use Rattle.rh_defs.specs.declared.question.BlockItem.{BlockItem}
use Rattle.rh_defs.specs.declared.question.SegmentItem.{SegmentItem}
use Rattle.rh_defs.specs.Heap.{Heap, segment_at}
use Rattle.rh_defs.specs.Slot.{heap_start}
use Rattle.rh_defs.specs.Desk.{Desk, named}
use Rattle.rh_defs.specs.Questions.{block_items, segment_items_from}
use Rattle.rh_heap.specs.Listed.{from_cut}
use Rattle.rh_defs.specs.declared.sizes.TheConstants.{SEGMENTS_AT_ONCE}

-- up to 64 segments of the heap at an address, from the one that begins at a place on
abbrev pub items_at : ℕ → ℕ → Heap → List SegmentItem
items_at start place h = take SEGMENTS_AT_ONCE (segment_items_from (start + place) (from_cut (segment_at place h)))

-- up to 64 segments of a C heap, from the one that begins at a place on
abbrev pub segment_items_at : ℕ → Heap → List SegmentItem
segment_items_at place h = items_at heap_start place h

-- the task's blocks from below
unfoldable pub blocks_of : Desk → List ℕ → Granted (List BlockItem)
blocks_of d name = do
  t ← named name d
  Ok (block_items t.slot)

-- up to 64 segments of the task's C heap, from the one that begins at a place on
unfoldable pub segments_of : Desk → List ℕ → ℕ → Granted (List SegmentItem)
segments_of d name place = do
  t ← named name d
  Ok (segment_items_at place t.slot.heap)
