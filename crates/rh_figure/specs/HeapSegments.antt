-- The segments of a desk's heaps, by addresses. d is a desk, a an address, h the handle of the task whose C heap it is, 0
-- for the heap of the module area.
use Rattle.std.specs.Prelude.{ℕ, ◌+◌, ◌-◌, ◌==◌, nat_lt, Bool, if◌then◌else◌, List, find, Option, Some, None}
use Rattle.std.specs.Option.{option_map}
use Rattle.rh_defs.specs.declared.question.SegmentItem.{SegmentItem}
use Rattle.rh_defs.specs.declared.question.SegmentItem.TheVariants as segment
use Rattle.rh_defs.specs.Heap.{Heap, first_place, base}
use Rattle.rh_defs.specs.Slot.{heap_start}
use Rattle.rh_defs.specs.Desk.{Desk, Task, task_at, module_start}
use Rattle.rh_defs.specs.Questions.{segment_items_from}

-- the address behind a segment
abbrev pub item_end : SegmentItem → ℕ
item_end (segment.Used address size) = address + size
item_end (segment.Hole address size) = address + size

-- the segments of a heap that begins at an address, from below
abbrev pub heap_items : ℕ → Heap → List SegmentItem
heap_items start h = segment_items_from (start + first_place) h.segments

-- whether a segment ends behind an address
abbrev pub ends_behind : ℕ → SegmentItem → Bool
ends_behind a i = nat_lt a (item_end i)

-- the segment of a heap that has the byte at an address; none on top
abbrev pub segment_over : ℕ → ℕ → Heap → Option SegmentItem
segment_over a start h = find (ends_behind a) (heap_items start h)

-- a heap of a desk, if it is there, and where it begins
abbrev pub heap_with : ℕ → Desk → Option Heap
heap_with h d = if h == 0 then Some d.post.heap else option_map (λ (t : Task). t.slot.heap) (task_at h d)

abbrev pub heap_start_with : ℕ → ℕ
heap_start_with h = if h == 0 then module_start else heap_start

-- the segment of a heap of a desk that has the byte at an address
abbrev pub segment_seen : ℕ → ℕ → Desk → Option SegmentItem
segment_seen h a d = seen_in (heap_with h d)
  where
    seen_in : Option Heap → Option SegmentItem
    seen_in None = None
    seen_in (Some heap) = segment_over a (heap_start_with h) heap

-- how many bytes are free on top of a heap
abbrev pub top_size : ℕ → Desk → ℕ
top_size h d = top_of (heap_with h d)
  where
    top_of : Option Heap → ℕ
    top_of None = 0
    top_of (Some heap) = heap.end - base heap

-- the size of the block that a segment is, 0 for a hole
abbrev pub found_size : Option SegmentItem → ℕ
found_size (Some (segment.Used address size)) = size
found_size _ = 0
