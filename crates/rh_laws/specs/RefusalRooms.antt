-- Where there is no room: what a heap, an area or a message is short of. Read Heap, Slot and Commands of rh_defs first.
-- d is a desk, h a heap, b a cut at a block, s a slot, g a segment, t the size of a segment, n that of a block, k the
-- number of an area. `-` of naturals stops at 0: a heap that is long enough is short of nothing.
use Rattle.std.specs.Prelude.{ℕ, ◌+◌, ◌-◌, ◌*◌, ℤ, pos, negsuc, Bool, ◌||◌, nat_lt, nat_le, ◌==◌, if◌then◌else◌, List, [], ◌∷◌, length, slice_index, find, Option, Some}
use Rattle.std.specs.Option.{option_map}
use Rattle.rh_defs.specs.declared.message.Body.{Body}
use Rattle.rh_defs.specs.declared.message.Body.TheVariants.{DataSave, DataSaveAck, DataLoad, DataLoadAck, RamFetch, RamTransmit, Other}
use Rattle.rh_defs.specs.Pieces.{page_size, pages_for, round_up, Split}
use Rattle.rh_defs.specs.Heap.{Segment, Heap, base, hole_size, largest_hole, place_after, segment_size, size_of}
use Rattle.rh_defs.specs.Slot.{Slot, slot_pages}
use Rattle.rh_defs.specs.Desk.{Desk, Made, free_pages, module_area, scrap_area, file_length}
use Rattle.rh_defs.specs.Commands.{is_numbered}

-- whether the free pages are too few for so many bytes more
abbrev pub lacks : ℕ → Desk → Bool
lacks bytes d = nat_lt (free_pages d) (pages_for bytes)

-- whether a slot that would take so many bytes needs more pages than it has and are free
abbrev pub outgrows : ℕ → Slot → Desk → Bool
outgrows bytes s d = nat_lt (slot_pages s + free_pages d) (pages_for bytes)

-- ---- heaps

-- whether a hole of the heap has room for a segment of t bytes
abbrev pub has_hole : ℕ → Heap → Bool
has_hole t h = nat_le t (largest_hole h.segments)

-- by how much the heap is too short for a new block of n bytes: it goes into a hole that is large enough, else on top
abbrev pub short_of : ℕ → Heap → ℕ
short_of n h = if has_hole (segment_size n) h then 0 else (base h + segment_size n) - h.end

-- the bytes of the hole right behind a block, 0 where there is none
abbrev pub hole_behind : List Segment → ℕ
hole_behind [] = 0
hole_behind (g ∷ segments) = hole_size g

-- where a larger segment for the block at the cut begins that no hole takes: the last one stays, others go to the base
abbrev pub new_place : List Segment → Split Segment → Heap → ℕ
new_place [] b h = place_after b.before
new_place (g ∷ after) b h = base h

-- by how much the heap is too short for the block at the cut to have n bytes: by nothing where its segment with the
-- hole behind it, or another hole, is large enough
abbrev pub short_for : ℕ → Split Segment → Heap → ℕ
short_for n b h =
    if nat_le (segment_size n) (size_of b.here + hole_behind b.after) || has_hole (segment_size n) h then 0
    else (new_place b.after b h + segment_size n) - h.end

-- ---- messages

-- the bytes of the block of a message about a file: 13 words, and its name of n bytes with a 0 in whole words
abbrev pub file_message_size : ℕ → ℕ
file_message_size n = 52 + round_up 4 (n + 1)

-- the bytes of the block of each message: one about a buffer takes 9 words, another one 7 and its data
abbrev pub message_size : Body → ℕ
message_size (DataSave f) = file_message_size (length f.name)
message_size (DataSaveAck f) = file_message_size (length f.name)
message_size (DataLoad f) = file_message_size (length f.name)
message_size (DataLoadAck f) = file_message_size (length f.name)
message_size (RamFetch buffer n) = 36
message_size (RamTransmit buffer n) = 36
message_size (Other o) = 28 + length o.1

-- ---- areas

-- the made area of the number
abbrev pub made_area : ℕ → Desk → Option Made
made_area k d = find (is_numbered k) d.made

-- the bytes of an area: the module area is as long as its heap; none where no area has the number
abbrev pub area_length_of : ℕ → Desk → Option ℕ
area_length_of k d =
    if k == module_area then Some d.post.heap.end
    else if nat_le k 5 then Some (page_size * slice_index d.areas k)
    else option_map (λ (m : Made). page_size * m.pages) (made_area k d)

-- the bytes that an area can't lose: what lies below the module heap's base, and the scrap file
abbrev pub kept_length : ℕ → Desk → ℕ
kept_length k d = if k == module_area then base d.post.heap else if k == scrap_area then file_length d.scrap else 0

-- the bytes of whole pages that a change takes from an area, and the pages that it brings
abbrev pub lost_bytes : ℤ → ℕ
lost_bytes (pos by) = 0
lost_bytes (negsuc by) = round_up page_size (by + 1)

abbrev pub gained_pages : ℤ → ℕ
gained_pages (pos by) = pages_for by
gained_pages (negsuc by) = 0
