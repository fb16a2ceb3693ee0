-- What is asked of a desk: of each question its whole answer, or its refusal, and what is read item by item.
-- Read Desk first. d is the desk, t the task, k an anchor, b a cut at its block, i the number of an item, counted from
-- 0. A step alone in a `do` counts for its refusal alone.
use Rattle.std.specs.Prelude.{ℕ, ◌+◌, nat_lt, ◌==◌, if◌then◌else◌, List, [], ◌∷◌, ◌++◌, length, take, drop, map, slice_get, Option, Ok, Bool, false, not, ◌&&◌}
use Rattle.std.specs.List.{enumerate_from}
use Rattle.std.specs.Option.{option_map}
use Rattle.rh_defs.specs.declared.question.BlockItem.{BlockItem}
use Rattle.rh_defs.specs.declared.question.SegmentItem.{SegmentItem}
use Rattle.rh_defs.specs.declared.question.SegmentItem.TheVariants as segment
use Rattle.rh_defs.specs.declared.question.AreaItem.{AreaItem}
use Rattle.rh_defs.specs.declared.question.AreaItem.TheVariants as item
use Rattle.rh_defs.specs.declared.question.State.TheVariants as state
use Rattle.rh_defs.specs.declared.question.RecordItem.{RecordItem}
use Rattle.rh_defs.specs.declared.refusal.Refusal.TheVariants.{BadRange}
use Rattle.rh_defs.specs.declared.transfer.Outgoing.{Outgoing}
use Rattle.rh_defs.specs.declared.transfer.Outgoing.TheVariants as outgoing
use Rattle.rh_defs.specs.declared.transfer.Incoming.{Incoming}
use Rattle.rh_defs.specs.declared.transfer.Incoming.TheVariants as incoming
use Rattle.rh_defs.specs.Chain.{Granted, ◌>>=◌, ◌>>◌, refuse_if}
use Rattle.rh_defs.specs.Heap.{Segment, Used, Hole, size_of, first_place, segment_at, largest, free_bytes}
use Rattle.rh_defs.specs.Slot.{Slot, Flex, weight, heap_start, flex_start, slot_block, holds}
use Rattle.rh_defs.specs.Places.{bytes_held}
use Rattle.rh_defs.specs.Desk.{Desk, Made, task_pages, module_pages, free_pages, named, module_area}
use Rattle.rh_defs.specs.declared.question.Question.{Question}
use Rattle.rh_defs.specs.declared.question.Question.TheVariants as question
use Rattle.rh_defs.specs.declared.question.Numbers.{Numbers}
use Rattle.rh_defs.specs.declared.question.Numbers.TheVariants as numbers
use Rattle.rh_defs.specs.declared.reply.Reply.{Reply}
use Rattle.rh_defs.specs.declared.reply.Reply.TheVariants.{Answered}

-- flex blocks that lie one after the other from a place on
abbrev pub block_items_from : ℕ → List Flex → List BlockItem
block_items_from place [] = []
block_items_from place (b ∷ blocks) =
    record { anchor = b.anchor; address = place + 8; size = length b.bytes } ∷ block_items_from (place + weight b) blocks

-- a slot's blocks from below
abbrev pub block_items : Slot → List BlockItem
block_items s = block_items_from (flex_start s) s.blocks

-- a segment that begins at a place
abbrev pub segment_item : ℕ → Segment → SegmentItem
segment_item place (Used bytes) = segment.Used (place + 4) (length bytes)
segment_item place (Hole size) = segment.Hole place size

-- segments that lie one after the other from a place on
abbrev pub segment_items_from : ℕ → List Segment → List SegmentItem
segment_items_from place [] = []
segment_items_from place (g ∷ segments) = segment_item place g ∷ segment_items_from (place + size_of g) segments

-- the segments of a slot's C heap from below
abbrev pub segment_items : Slot → List SegmentItem
segment_items s = segment_items_from (heap_start + first_place) s.heap.segments

-- one of areas 0 to 5, by its number and the pages that the list has for it
abbrev pub area_item : Desk → ℕ × ℕ → AreaItem
area_item d area = item.Area area.0 (if area.0 == module_area then module_pages d else area.1)

-- areas 0 to 5, the made ones, and then the slots in order of handle
abbrev pub area_items : Desk → List AreaItem
area_items d =
    map (area_item d) (enumerate_from 0 d.areas)
    ++ map (λ (m : Made). item.Area m.number m.pages) d.made
    ++ map (λ t. item.Slot t.name (task_pages t)) d.tasks

-- the state, id and count of a record of a transfer that goes out
abbrev pub out_item : Outgoing → RecordItem
out_item (outgoing.Open x) = record { state = state.Open; id = x.id; count = x.count }
out_item (outgoing.Done id count) = record { state = state.Done; id = id; count = count }
out_item (outgoing.Failed id count) = record { state = state.Failed; id = id; count = count }

-- the state, id and count of a record of a transfer that comes in
abbrev pub in_item : Incoming → RecordItem
in_item (incoming.Fetching f) = record { state = state.Fetching; id = f.id; count = f.count }
in_item (incoming.Draining f) = record { state = state.Draining; id = f.id; count = f.count }
in_item (incoming.Asking q) = record { state = state.Asking; id = q.id; count = 0 }
in_item (incoming.Done id anchor count) = record { state = state.Done; id = id; count = count }
in_item (incoming.Failed id anchor count) = record { state = state.Failed; id = id; count = count }

-- what an answer lists
pub data Listed : Type 0 where
  Nothing : Listed
  Bytes : List ℕ → Listed
  Blocks : List BlockItem → Listed
  Segments : List SegmentItem → Listed
  Records : (out in_ : List RecordItem) → Listed
  Areas : List AreaItem → Listed

-- a whole answer: the numbers of the first line, and what is listed with them
abbrev pub Told : Type 0
Told = Numbers × Listed

-- a block's size, and its bytes
unfoldable pub show : Desk → List ℕ → ℕ → Granted Told
show d name k = do
  t ← named name d
  b ← slot_block k t.slot
  Ok (numbers.Shown (length b.here.bytes), Bytes b.here.bytes)

-- n bytes at an address of the slot, which lie whole in one live block
unfoldable pub read : Desk → List ℕ → ℕ → ℕ → Granted Told
read d name x n = do
  t ← named name d
  refuse_if (not (holds x n t.slot)) BadRange
  Ok (numbers.Shown n, Bytes (bytes_held x n t.slot))

-- how many blocks the task has, and each of them
unfoldable pub blocks : Desk → List ℕ → Granted Told
blocks d name = do
  t ← named name d
  Ok (numbers.BlockCount (length t.slot.blocks), Blocks (block_items t.slot))

-- the sums over the C heap, and its segments
unfoldable pub heap : Desk → List ℕ → Granted Told
heap d name = do
  t ← named name d
  Ok (numbers.HeapSums t.slot.heap.end (largest t.slot.heap) (free_bytes t.slot.heap), Segments (segment_items t.slot))

-- the task's handle, and its records
unfoldable pub status : Desk → List ℕ → Granted Told
status d name = do
  t ← named name d
  Ok (numbers.StatusOf t.handle, Records (map out_item t.sending) (map in_item t.taking))

-- the free pages, and those of each area and slot
abbrev pub areas : Desk → Told
areas d = (numbers.FreePages (free_pages d), Areas (area_items d))

-- what a question is answered
abbrev pub asked : Desk → Question → Granted Told
asked d (question.Show name k) = show d name k
asked d (question.Read name x n) = read d name x n
asked d (question.Blocks name) = blocks d name
asked d (question.Heap name) = heap d name
asked d (question.Status name) = status d name
asked d question.Areas = Ok (areas d)

-- ---- the first line

-- its numbers
abbrev pub each_of : Numbers → List ℕ
each_of (numbers.Shown size) = size ∷ []
each_of (numbers.BlockCount count) = count ∷ []
each_of (numbers.HeapSums length largest free) = length ∷ largest ∷ free ∷ []
each_of (numbers.StatusOf handle) = handle ∷ []
each_of (numbers.FreePages pages) = pages ∷ []

-- whether two have the same
abbrev pub is_same : Numbers → Numbers → Bool
is_same (numbers.Shown a) (numbers.Shown b) = a == b
is_same (numbers.BlockCount a) (numbers.BlockCount b) = a == b
is_same (numbers.HeapSums a b c) (numbers.HeapSums x y z) = a == x && b == y && c == z
is_same (numbers.StatusOf a) (numbers.StatusOf b) = a == b
is_same (numbers.FreePages a) (numbers.FreePages b) = a == b
is_same _ _ = false

-- whether a reply is what the first line of this answer says
abbrev pub begins : Granted Told → Reply → Bool
begins (Ok told) (Answered numbers) = is_same told.0 numbers
begins _ _ = false

-- ---- what is asked of a desk, item by item

-- the free pages, and item i
abbrev pub areas_at : Desk → ℕ → ℕ × Option AreaItem
areas_at d i = (free_pages d, slice_get (area_items d) i)

-- how many blocks the task has, and block i from below
unfoldable pub blocks_at : Desk → List ℕ → ℕ → Granted (ℕ × Option BlockItem)
blocks_at d name i = do
  t ← named name d
  Ok (length t.slot.blocks, slice_get (block_items t.slot) i)

-- the C heap's length, largest block and free bytes, and the segment that begins at a place of it
unfoldable pub heap_at : Desk → List ℕ → ℕ → Granted ((ℕ × ℕ × ℕ) × Option SegmentItem)
heap_at d name place = do
  t ← named name d
  Ok (
    (t.slot.heap.end, largest t.slot.heap, free_bytes t.slot.heap),
    option_map (λ s. segment_item (heap_start + place) s.here) (segment_at place t.slot.heap),
  )

-- the task's handle, and its records each way
unfoldable pub status_at : Desk → List ℕ → Granted (ℕ × List Outgoing × List Incoming)
status_at d name = do
  t ← named name d
  Ok (t.handle, t.sending, t.taking)

-- the size of a block, and n of its bytes from an offset on
unfoldable pub shown_at : Desk → List ℕ → ℕ → ℕ → ℕ → Granted (ℕ × List ℕ)
shown_at d name k offset n = do
  t ← named name d
  b ← slot_block k t.slot
  refuse_if (nat_lt (length b.here.bytes) (offset + n)) BadRange
  Ok (length b.here.bytes, take n (drop offset b.here.bytes))
