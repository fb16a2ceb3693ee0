-- Items of lists, from what the world keeps.
use Rattle.std.specs.Prelude.{ℕ, ◌+◌, ◌-◌, ◌≤◌, if◌then◌else◌}
use Rattle.rh_defs.specs.declared.question.AreaItem.{AreaItem}
use Rattle.rh_defs.specs.declared.question.AreaItem.TheVariants as item
use Rattle.rh_defs.specs.declared.question.SegmentItem.{SegmentItem}
use Rattle.rh_defs.specs.declared.question.SegmentItem.TheVariants as segment
use Rattle.rh_heap.specs.declared.layout.Segment.{Segment}
use Rattle.rh_tasks.specs.declared.listing.AreaEntry.{AreaEntry}
use Rattle.rh_tasks.specs.declared.listing.AreaEntry.TheVariants as entry
use Rattle.rh_store.specs.Limits.{area_limit}

-- the item that an entry stands for
abbrev pub area_item_of : AreaEntry → AreaItem
area_item_of (entry.Area number pages) = item.Area number pages
area_item_of (entry.Slot name pages) = item.Slot name.now pages

-- a segment that begins at a place of a heap, by the heap's address
abbrev pub segment_item_of : ℕ → ℕ → Segment → SegmentItem
segment_item_of start place s =
    if s.used then segment.Used (start + place + 4) (s.size - 4) else segment.Hole (start + place) s.size

-- a segment that knows its place in a heap, by the heap's address
abbrev pub placed_item : ℕ → Segment → SegmentItem
placed_item start s = segment_item_of start s.place s

-- a segment whose place and size are small enough for an address
abbrev pub IsSmallSegment : Segment → Type 0
IsSmallSegment s = (s.place ≤ area_limit) × (s.size ≤ area_limit)
