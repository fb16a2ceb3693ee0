-- Heaps as lists of used segments and holes, and the calls on them. Read Pieces first.
-- n is a number of bytes that is asked for, t that of a whole segment, s a list of segments cut at one, g a segment, h
-- a heap. Addresses count from the heap's descriptor: 20 is the least address of a block, 4 above its segment's place.
-- `-` of naturals stops at 0, by which a shortage is 0 where there is room (*shortage_in*, *resize_need*), *fitted*
-- adds no zeros where it cuts, and *largest* is 0 where nothing is free. Bytes above the last used segment are no hole.
use Rattle.std.specs.Prelude.{◌≡◌, ℕ, zero, suc, ◌+◌, ◌-◌, ◌<◌, ◌≤◌, ◌%◌, ℤ, Bool, true, false, nat_lt, nat_le, ◌==◌, max, if◌then◌else◌, List, [], ◌∷◌, ◌++◌, length, take, Option, Some, None, Result, Ok, Err, ok_or}
use Rattle.std.specs.Option.{option_map}
use Rattle.rh_defs.specs.Pieces.{round_up, page_size, zeros, moved, total, Split, first_at, with_here, is_inside}
use Rattle.rh_defs.specs.declared.heap.HeapRefusal.{HeapRefusal}
use Rattle.rh_defs.specs.declared.heap.HeapRefusal.TheVariants.{NotABlock, BadSize, NoRoom, ExcessiveShrink}
use Rattle.rh_defs.specs.declared.refusal.Refusal.{Refusal}
use Rattle.rh_defs.specs.declared.sizes.TheConstants.{HEAP_FIRST}
use Rattle.rh_defs.specs.declared.refusal.Refusal.TheVariants as refusal

-- a block with its bytes, or free bytes between blocks
pub data Segment : Type 0 where
  Used : (bytes : List ℕ) → Segment
  Hole : (size : ℕ) → Segment

-- segments one after the other, and the number of bytes that the heap may take
pub record Heap : Type 0 where
  pub segments : List Segment
  pub end : ℕ

-- a used segment has a word for its size before its bytes
abbrev pub size_of : Segment → ℕ
size_of (Used bytes) = 4 + length bytes
size_of (Hole size) = size

abbrev pub bytes_of : Segment → List ℕ
bytes_of (Used bytes) = bytes
bytes_of (Hole size) = []

-- the descriptor takes the first 16 bytes
abbrev pub first_place : ℕ
first_place = HEAP_FIRST

-- where segments end that begin at the heap's first place
abbrev pub place_after : List Segment → ℕ
place_after segments = first_place + total size_of segments

-- the first byte above all segments
abbrev pub base : Heap → ℕ
base h = place_after h.segments

abbrev pub empty_heap : ℕ → Heap
empty_heap end = record { segments = []; end = end }

-- Sizes are positive multiples of 8, no two holes are neighbours and the last segment is used. The flag says whether a hole stands before the list.
abbrev pub IsTidy : Bool → List Segment → Type 0
IsTidy false [] = Unit {0}
IsTidy true [] = ⊥
IsTidy after_hole (Used bytes ∷ segments) = ((4 + length bytes) % 8 ≡ 0) × IsTidy false segments
IsTidy false (Hole size ∷ segments) = (0 < size) × (size % 8 ≡ 0) × IsTidy true segments
IsTidy true (Hole size ∷ segments) = ⊥

pub record IsHeap (h : Heap) : Type 0 where
  pub tidy : IsTidy false h.segments
  pub fits : base h ≤ h.end
  pub multiple : h.end % 8 ≡ 0

-- ---- finding

abbrev pub is_block_at : ℕ → ℕ → Segment → Bool
is_block_at address place (Used bytes) = address == place + 4
is_block_at address place (Hole size) = false

abbrev pub is_hole_for : ℕ → ℕ → Segment → Bool
is_hole_for t place (Used bytes) = false
is_hole_for t place (Hole size) = nat_le t size

-- the block with the address
abbrev pub block_at : ℕ → Heap → Option (Split Segment)
block_at address h = first_at size_of (is_block_at address) first_place h.segments

-- the first hole of at least t bytes
abbrev pub hole_for : ℕ → List Segment → Option (Split Segment)
hole_for t segments = first_at size_of (is_hole_for t) first_place segments

abbrev pub is_around : ℕ → ℕ → ℕ → Segment → Bool
is_around x n place (Used bytes) = is_inside x n (place + 4) (length bytes)
is_around x n place (Hole size) = false

-- the block that holds the n bytes at address x whole
abbrev pub block_around : ℕ → ℕ → Heap → Option (Split Segment)
block_around x n h = first_at size_of (is_around x n) first_place h.segments

-- the segment that begins at a place
abbrev pub segment_at : ℕ → Heap → Option (Split Segment)
segment_at p h = first_at size_of (λ place g. p == place) first_place h.segments

-- the number of a block's bytes
abbrev pub block_size : ℕ → Heap → Option ℕ
block_size address h = option_map (λ s. length (bytes_of s.here)) (block_at address h)

-- ---- holes

-- a hole before segments: none of no bytes, one with the next hole, and none at the end
abbrev pub with_hole : ℕ → List Segment → List Segment
with_hole zero segments = segments
with_hole (suc n) [] = []
with_hole (suc n) (Hole m ∷ segments) = Hole (suc n + m) ∷ segments
with_hole (suc n) (Used bytes ∷ segments) = Hole (suc n) ∷ Used bytes ∷ segments

-- neighbouring holes are one, and a hole at the end belongs to the top
abbrev pub joined : List Segment → List Segment
joined [] = []
joined (Used bytes ∷ segments) = Used bytes ∷ joined segments
joined (Hole size ∷ segments) = with_hole size (joined segments)

-- ---- claims

-- a heap, and the address of a block in it
pub record Placed : Type 0 where
  pub heap : Heap
  pub address : ℕ

-- a placed block as a call gives it
abbrev pub as_granted : Placed → Heap × ℕ
as_granted p = (p.heap, p.address)

-- the size of a segment whose block has n bytes at least, and the bytes that the block then has
abbrev pub segment_size : ℕ → ℕ
segment_size n = round_up 8 (n + 4)

abbrev pub block_room : ℕ → ℕ
block_room n = segment_size n - 4

-- the block in the hole's lower bytes, or where there is no hole above all segments
abbrev pub placed_in : List ℕ → Heap → Option (Split Segment) → Placed
placed_in bytes h (Some s) = record {
  heap = record h { segments = s.before ++ Used bytes ∷ with_hole (size_of s.here - (4 + length bytes)) s.after };
  address = place_after s.before + 4;
}
placed_in bytes h None = record { heap = record h { segments = h.segments ++ Used bytes ∷ [] }; address = base h + 4 }

abbrev pub placed_block : List ℕ → Heap → Placed
placed_block bytes h = placed_in bytes h (hole_for (4 + length bytes) h.segments)

-- by how much the heap is too short for a new segment of t bytes
abbrev pub shortage_in : ℕ → Heap → Option (Split Segment) → ℕ
shortage_in t h (Some s) = 0
shortage_in t h None = (base h + t) - h.end

-- by how much the heap is too short for a block of n bytes
abbrev pub need : ℕ → Heap → ℕ
need n h = shortage_in (segment_size n) h (hole_for (segment_size n) h.segments)

-- a block of n zeros: the heap, and the block's address
abbrev pub claim_block : ℕ → Heap → Result (Heap × ℕ) HeapRefusal
claim_block n h =
    if n == 0 then Err BadSize
    else if need n h == 0 then Ok (as_granted (placed_block (zeros (block_room n)) h))
    else Err NoRoom

-- by how much the heap is too short for a block of n bytes, as the answer to a call
abbrev pub claim_need : ℕ → Heap → Result ℕ HeapRefusal
claim_need n h = if n == 0 then Err BadSize else Ok (need n h)

-- the heap with its end raised by whole pages
abbrev pub raised : ℕ → Heap → Heap
raised shortage h = record h { end = h.end + round_up page_size shortage }

-- a block of n zeros, in a heap that grows where it is too short
abbrev pub claim_growing : ℕ → Heap → Placed
claim_growing n h = placed_block (zeros (block_room n)) (raised (need n h) h)

-- ---- releases

-- the block at the cut becomes a hole
abbrev pub released : Split Segment → Heap → Heap
released s h = record h { segments = joined (with_here s (Hole (size_of s.here))) }

abbrev pub release_found : Option (Split Segment) → Heap → Heap
release_found None h = h
release_found (Some s) h = released s h

-- the heap without the block at the address; as it was where no block begins there
abbrev pub release_block : ℕ → Heap → Heap
release_block address h = release_found (block_at address h) h

-- the heap without the block at the address, refused where no block begins there
abbrev pub released_at : ℕ → Heap → Result Heap HeapRefusal
released_at address h = ok_or (option_map (λ s. released s h) (block_at address h)) NotABlock

-- ---- resizes

-- the bytes, cut or with zeros up to n
abbrev pub fitted : ℕ → List ℕ → List ℕ
fitted n bytes = take n bytes ++ zeros (n - length bytes)

-- how a block gets another size, in the order in which the ways are tried
pub data Way : Type 0 where
  Stays : Way
  Shrinks : Way
  GrowsIntoHole : (size : ℕ) → (rest : List Segment) → Way
  GrowsAtTop : Way
  MovesToHole : (hole : Split Segment) → Way
  MovesToTop : Way

-- to a hole if there is one, else to the top, where the last block is already
abbrev pub way_beyond : List Segment → Option (Split Segment) → Way
way_beyond after (Some hole) = MovesToHole hole
way_beyond [] None = GrowsAtTop
way_beyond (g ∷ after) None = MovesToTop

-- how a block at the cut gets a segment of t bytes, more than it has
abbrev pub way_to_grow : ℕ → Split Segment → List Segment → Heap → Way
way_to_grow t s [] h =
    if nat_le (place_after s.before + t) h.end then GrowsAtTop
    else way_beyond [] (hole_for t h.segments)
way_to_grow t s (Used bytes ∷ after) h = way_beyond (Used bytes ∷ after) (hole_for t h.segments)
way_to_grow t s (Hole size ∷ after) h =
    if nat_le t (size_of s.here + size) then GrowsIntoHole size after
    else way_beyond (Hole size ∷ after) (hole_for t h.segments)

abbrev pub way_to : ℕ → Split Segment → Heap → Way
way_to t s h =
    if t == size_of s.here then Stays
    else if nat_lt t (size_of s.here) then Shrinks
    else way_to_grow t s s.after h

-- the heap with these bytes in the place of the block at the cut
abbrev pub resized_by : Way → List ℕ → Split Segment → Heap → Placed
resized_by Stays bytes s h = record { heap = h; address = place_after s.before + 4 }
resized_by Shrinks bytes s h = record {
  heap = record h { segments = joined (s.before ++ Used bytes ∷ Hole (size_of s.here - (4 + length bytes)) ∷ s.after) };
  address = place_after s.before + 4;
}
resized_by (GrowsIntoHole size rest) bytes s h = record {
  heap = record h { segments = s.before ++ Used bytes ∷ with_hole ((size_of s.here + size) - (4 + length bytes)) rest };
  address = place_after s.before + 4;
}
resized_by GrowsAtTop bytes s h = record {
  heap = record h { segments = s.before ++ Used bytes ∷ [] };
  address = place_after s.before + 4;
}
resized_by (MovesToHole hole) bytes s h =
    let there = placed_in bytes h (Some hole) in
    record { heap = release_block (place_after s.before + 4) there.heap; address = there.address }
resized_by MovesToTop bytes s h =
    let there = placed_in bytes h None in
    record { heap = release_block (place_after s.before + 4) there.heap; address = there.address }

-- the end that a way wants
abbrev pub end_for : Way → ℕ → Split Segment → Heap → ℕ
end_for GrowsAtTop t s h = place_after s.before + t
end_for MovesToTop t s h = base h + t
end_for _ t s h = 0

-- by how much the heap is too short for the block at the cut to have n bytes
abbrev pub resize_need : ℕ → Split Segment → Heap → ℕ
resize_need n s h = end_for (way_to (segment_size n) s h) (segment_size n) s h - h.end

-- the block at the cut with n bytes, 1 at least, in a heap that has become longer
abbrev pub resized : ℕ → Split Segment → Heap → Heap → Placed
resized n s h longer = resized_by (way_to (segment_size n) s h) (fitted (block_room n) (bytes_of s.here)) s longer

-- the block at the cut with n bytes, in a heap that grows where it is too short
abbrev pub resize_growing : ℕ → Split Segment → Heap → Placed
resize_growing n s h = resized n s h (raised (resize_need n s h) h)

-- the bytes of the block at the cut, moved by delta; none where that is below 1
abbrev pub new_size : ℤ → Split Segment → ℕ
new_size delta s = moved (length (bytes_of s.here)) delta

abbrev pub resize_found : ℤ → Option (Split Segment) → Heap → Result (Heap × ℕ) HeapRefusal
resize_found delta None h = Err NotABlock
resize_found delta (Some s) h =
    if new_size delta s == 0 then Err BadSize
    else if resize_need (new_size delta s) s h == 0 then Ok (as_granted (resized (new_size delta s) s h h))
    else Err NoRoom

-- delta bytes more in the block at the address: the heap, and the block's address
abbrev pub resize_block : ℕ → ℤ → Heap → Result (Heap × ℕ) HeapRefusal
resize_block address delta h = resize_found delta (block_at address h) h

-- the shortage as the answer to a call
abbrev pub need_found : ℤ → Option (Split Segment) → Heap → Result ℕ HeapRefusal
need_found delta None h = Err NotABlock
need_found delta (Some s) h = if new_size delta s == 0 then Err BadSize else Ok (resize_need (new_size delta s) s h)

abbrev pub need_at : ℕ → ℤ → Heap → Result ℕ HeapRefusal
need_at address delta h = need_found delta (block_at address h) h

-- ---- the end, and sums

-- the heap with its end moved by delta bytes
abbrev pub extended : ℤ → Heap → Heap
extended delta h = record h { end = moved h.end delta }

-- refused where the end would be below the base
abbrev pub extend_by : ℤ → Heap → Result Heap HeapRefusal
extend_by delta h = if nat_lt (moved h.end delta) (base h) then Err ExcessiveShrink else Ok (extended delta h)

abbrev pub hole_size : Segment → ℕ
hole_size (Used bytes) = 0
hole_size (Hole size) = size

abbrev pub largest_hole : List Segment → ℕ
largest_hole [] = 0
largest_hole (g ∷ segments) = max (hole_size g) (largest_hole segments)

-- the largest block that fits without growth
abbrev pub largest : Heap → ℕ
largest h = max (largest_hole h.segments) (h.end - base h) - 4

abbrev pub free_bytes : Heap → ℕ
free_bytes h = total hole_size h.segments + (h.end - base h)

-- ---- refusals

-- the refusal of a command whose call on a heap was refused
abbrev pub refusal_of : HeapRefusal → Refusal
refusal_of NotABlock = refusal.NotABlock
refusal_of BadSize = refusal.BadSize
refusal_of NoRoom = refusal.NoRoom
refusal_of ExcessiveShrink = refusal.ExcessiveShrink
