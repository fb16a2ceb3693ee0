-- What became of a heap and its blocks, in words. Read HeapSegments and Scene first.
-- x is the scene, h the handle of the task whose C heap it is, 0 for the module area's, a an address, n a number of bytes.
use Rattle.std.specs.Prelude.{ℕ, ◌+◌, ◌==◌, nat_lt, if◌then◌else◌, List, [], ◌∷◌, ◌++◌, codes, Option, Some, None}
use Rattle.std.specs.List.{concat}
use Rattle.std.specs.Fmt.{decimal}
use Rattle.rh_defs.specs.declared.question.SegmentItem.{SegmentItem}
use Rattle.rh_defs.specs.declared.question.SegmentItem.TheVariants as segment
use Rattle.rh_defs.specs.declared.message.Action.{Action}
use Rattle.rh_defs.specs.declared.message.Action.TheVariants.{DataSave}
use Rattle.rh_defs.specs.declared.message.Body.{Body}
use Rattle.rh_defs.specs.declared.message.Body.TheVariants.{RamFetch}
use Rattle.rh_defs.specs.declared.message.Letter.{Letter}
use Rattle.rh_defs.specs.Desk.{Task}
use Rattle.rh_defs.specs.Text.{address}
use Rattle.rh_figure.specs.HeapSegments.{segment_seen, found_size, top_size}
use Rattle.rh_figure.specs.Scene.{Scene}
use Rattle.rh_figure.specs.Phrases.{Text, size_text}
use Rattle.rh_figure.specs.declared.heap_effect.HeapEffect.{HeapEffect}
use Rattle.rh_figure.specs.declared.heap_effect.HeapEffect.TheVariants.{Nothing, Claimed, Released, Resized}

-- ---- sentences

-- a C heap that had so many bytes, and has another number now
abbrev pub grown_line : Text → ℕ → ℕ → Text
grown_line name had has = concat (
    codes "The C heap of " ∷ name ∷ codes " grows from " ∷ decimal had ∷ codes " to " ∷ size_text has ∷ []
    )

-- a block by its address
abbrev pub heap_block : ℕ → ℕ → Text
heap_block h a = (if h == 0 then codes "Module block " else codes "Heap block ") ++ address a

-- The hole that a new block of n bytes with its word was put into, by the segment behind it: no hole lies beside another
-- one, or below the top.
abbrev pub room_text : ℕ → Option SegmentItem → Text
room_text n None = codes ", on top"
room_text n (Some (segment.Hole at left)) = concat (
    codes ", in the hole of " ∷ decimal (n + 4 + left) ∷ codes ": " ∷ decimal left ∷ codes " are left" ∷ []
    )
room_text n (Some (segment.Used at size)) =
    concat (codes ", in the hole of " ∷ decimal (n + 4) ∷ codes ", which it fills" ∷ [])

abbrev pub claimed_line : ℕ → ℕ → ℕ → Option SegmentItem → Text
claimed_line h a n next = concat (heap_block h a ∷ codes " is new: " ∷ size_text n ∷ room_text n next ∷ [])

-- a buffer, by the transfer whose bytes it holds
abbrev pub buffer_line : ℕ → ℕ → ℕ → Option SegmentItem → Text
buffer_line a id n next = concat (
    codes "Buffer " ∷ address a ∷ codes " of transfer " ∷ decimal id ∷ codes " is new: " ∷ size_text n ∷ room_text n next
    ∷ []
    )

abbrev pub released_line : ℕ → ℕ → ℕ → Text
released_line h a n = concat (heap_block h a ∷ codes " of " ∷ size_text n ∷ codes " is released" ∷ [])

-- a block that stays where it was
abbrev pub stayed_line : ℕ → ℕ → ℕ → ℕ → Text
stayed_line h a had has = concat (heap_block h a ∷ codes " had " ∷ size_text had ∷ codes ", now " ∷ decimal has ∷ [])

-- whether a block that moved lies on top now
abbrev pub segment_place_text : Option SegmentItem → Text
segment_place_text None = codes ", on top"
segment_place_text (Some next) = []

abbrev pub moved_block_line : ℕ → ℕ → ℕ → ℕ → Option SegmentItem → Text
moved_block_line h from to n next =
    concat (heap_block h from ∷ codes " moves to " ∷ address to ∷ codes ": " ∷ size_text n ∷ segment_place_text next ∷ [])

-- a hole where a block of n bytes with its word was
abbrev pub hole_line : ℕ → ℕ → Text
hole_line n size = concat (
    codes "Where it was, a hole of " ∷ decimal size ∷ codes " is left"
    ∷ (if size == n + 4 then [] else codes ": it joins what was free beside it") ∷ []
    )

abbrev pub top_line : ℕ → Text
top_line n = codes "Where it was is part of the top now, which has " ++ size_text n

-- what is where a block of n bytes was, by the segment there and the bytes on top
abbrev pub hole_left_text : ℕ → Option SegmentItem → ℕ → List Text
hole_left_text n None top = top_line top ∷ []
hole_left_text n (Some (segment.Hole at size)) top = hole_line n size ∷ []
hole_left_text n (Some (segment.Used at size)) top = []

-- ---- of a scene

-- the segment that has the byte at an address behind the command
abbrev pub segment_now : Scene → ℕ → ℕ → Option SegmentItem
segment_now x h a = segment_seen h a x.desk

abbrev pub size_now : Scene → ℕ → ℕ → ℕ
size_now x h a = found_size (segment_now x h a)

-- the segment behind the block at an address
abbrev pub next_now : Scene → ℕ → ℕ → Option SegmentItem
next_now x h a = segment_now x h (a + size_now x h a)

-- whether the C heap of the named task has grown
abbrev pub grown_text : Scene → Option Task → List Text
grown_text x None = []
grown_text x (Some t) =
    if nat_lt x.before.heap_end t.slot.heap.end then grown_line t.name x.before.heap_end t.slot.heap.end ∷ [] else []

abbrev pub buffer_new : Scene → ℕ → ℕ → ℕ → List Text
buffer_new x h a id = buffer_line a id (size_now x h a) (next_now x h a) ∷ []

-- a fetch for a message that was taken: the buffer of an offer is new
abbrev pub buffer_fetched : Scene → ℕ × Action → ℕ → Body → List Text
buffer_fetched x (id, DataSave) h (RamFetch a n) = buffer_new x h a id
buffer_fetched x taken h body = []

-- the buffer that a task claimed for the offer that it took
abbrev pub buffer_text : Scene → Option (ℕ × Action) → Option (Letter × ℕ) → List Text
buffer_text x (Some taken) (Some sent) = buffer_fetched x taken sent.0.from sent.0.body
buffer_text x _ _ = []

abbrev pub claimed_text : Scene → ℕ → ℕ → List Text
claimed_text x h a = claimed_line h a (size_now x h a) (next_now x h a) ∷ []

abbrev pub vacated_text : Scene → ℕ → ℕ → List Text
vacated_text x h a = hole_left_text x.before.size (segment_now x h a) (top_size h x.desk)

abbrev pub released_text : Scene → ℕ → ℕ → List Text
released_text x h a = released_line h a x.before.size ∷ vacated_text x h a

abbrev pub resized_text : Scene → ℕ → ℕ → ℕ → List Text
resized_text x h from to =
    if from == to then stayed_line h to x.before.size (size_now x h to) ∷ []
    else moved_block_line h from to (size_now x h to) (next_now x h to) ∷ vacated_text x h from

-- what became of a heap's block
abbrev pub heap_text : Scene → HeapEffect → List Text
heap_text x Nothing = []
heap_text x (Claimed h a) = claimed_text x h a
heap_text x (Released h a) = released_text x h a
heap_text x (Resized h from to) = resized_text x h from to
