-- A slot: the C heap, the flex blocks above it, and whether budging is on. Read Chain and Heap first.
-- s is a slot, k an anchor, n a number of bytes, free the number of free pages, b a cut at a block: b.before is below
-- it. `-` of naturals stops at 0: an address below the C heap becomes 0 there, where no block is; a slot that doesn't
-- get longer takes 0 pages (*lacks_room*). `_ ← refuse_if ..` counts for its refusal alone.
use Rattle.std.specs.Prelude.{◌≢◌, ℕ, ◌+◌, ◌-◌, ◌<◌, ℤ, pos, negsuc, Bool, true, ◌&&◌, ◌||◌, not, nat_lt, nat_le, ◌==◌, List, [], ◌∷◌, ◌++◌, length, take, drop, Option, is_some, Ok}
use Rattle.std.specs.List.{AllByRecursion}
use Rattle.rh_defs.specs.declared.refusal.Refusal.TheVariants.{NoBlock, AnchorInUse, NotABlock, BadRange, BadSize, NoBudge, NoRoom}
use Rattle.rh_defs.specs.declared.sizes.TheConstants.{ANCHORS, SLOT_START, C_HEAP_PLACE, C_HEAP_START, C_HEAP_LENGTH}
use Rattle.rh_defs.specs.Chain.{Granted, ◌>>=◌, refuse_if, found_or}
use Rattle.rh_defs.specs.Pieces.{round_up, page_size, pages_for, lacks_pages, zeros, moved, total, Split, first_at, with_here, written, is_inside}
use Rattle.rh_defs.specs.Heap.{Segment, Heap, IsHeap, Placed, empty_heap, block_at, block_around, need, claim_growing, released, new_size, resize_need, resize_growing, fitted}

-- a flex block, by its anchor and its bytes
pub record Flex : Type 0 where
  pub anchor : ℕ
  pub bytes : List ℕ

-- the C heap, the flex blocks above it from below, and whether they give way where the C heap grows
pub record Slot : Type 0 where
  pub heap : Heap
  pub blocks : List Flex
  pub budging : Bool

-- a slot has so many anchors
abbrev pub anchor_count : ℕ
anchor_count = ANCHORS

-- what a block of n bytes takes: two header words, and whole words
abbrev pub flex_weight : ℕ → ℕ
flex_weight n = 8 + round_up 4 n

abbrev pub weight : Flex → ℕ
weight b = flex_weight (length b.bytes)

-- application space begins at &8000, with the anchor words; the C heap follows them
abbrev pub slot_start : ℕ
slot_start = SLOT_START

abbrev pub heap_start : ℕ
heap_start = C_HEAP_START

-- the bytes that the anchors, the C heap and the blocks take
abbrev pub slot_length : Slot → ℕ
slot_length s = C_HEAP_PLACE + s.heap.end + total weight s.blocks

-- a slot has just the pages that hold them
abbrev pub slot_pages : Slot → ℕ
slot_pages s = pages_for (slot_length s)

-- a slot with no block
abbrev pub new_slot : Slot
new_slot = record { heap = empty_heap C_HEAP_LENGTH; blocks = []; budging = true }

-- the first byte above the C heap
abbrev pub flex_start : Slot → ℕ
flex_start s = heap_start + s.heap.end

-- the anchor is none of these blocks'
abbrev pub IsFree : ℕ → List Flex → Type 0
IsFree k blocks = AllByRecursion (λ b. b.anchor ≢ k) blocks

-- each block has one of the anchors for its own
abbrev pub HaveAnchors : List Flex → Type 0
HaveAnchors [] = Unit {0}
HaveAnchors (b ∷ blocks) = (b.anchor < anchor_count) × IsFree b.anchor blocks × HaveAnchors blocks

-- what holds of every slot: its heap is one, and its blocks have anchors
pub record IsSlot (s : Slot) : Type 0 where
  pub heap : IsHeap s.heap
  pub anchors : HaveAnchors s.blocks

-- ---- finding

-- the address of a block that has these below it
abbrev pub flex_address : Slot → List Flex → ℕ
flex_address s below = flex_start s + total weight below + 8

-- the block of the anchor
abbrev pub block_of : ℕ → Slot → Option (Split Flex)
block_of k s = first_at weight (λ _ b. b.anchor == k) (flex_start s) s.blocks

-- whether the anchor has a block
abbrev pub is_used : ℕ → Slot → Bool
is_used k s = is_some (block_of k s)

-- the block of the C heap with the address; addresses below the C heap are no block's
abbrev pub heap_block_at : ℕ → Slot → Option (Split Segment)
heap_block_at address s = block_at (address - heap_start) s.heap

-- the flex block that holds the n bytes at address x whole
abbrev pub flex_around : ℕ → ℕ → Slot → Option (Split Flex)
flex_around x n s = first_at weight (λ place b. is_inside x n (place + 8) (length b.bytes)) (flex_start s) s.blocks

-- whether the n bytes at address x lie whole in one live block
abbrev pub holds : ℕ → ℕ → Slot → Bool
holds x n s = is_some (flex_around x n s) || (nat_le heap_start x && is_some (block_around (x - heap_start) n s.heap))

-- ---- edits

-- the slot with one more block on top
abbrev pub with_block : ℕ → List ℕ → Slot → Slot
with_block k bytes s = record s { blocks = s.blocks ++ record { anchor = k; bytes = bytes } ∷ [] }

-- the slot with other bytes in the block at the cut
abbrev pub with_block_bytes : Split Flex → List ℕ → Slot → Slot
with_block_bytes b bytes s = record s { blocks = with_here b (record { anchor = b.here.anchor; bytes = bytes }) }

-- the slot without the block at the cut
abbrev pub without : Split Flex → Slot → Slot
without b s = record s { blocks = b.before ++ b.after }

-- the slot with another C heap; the blocks stand above its end
abbrev pub with_heap : Heap → Slot → Slot
with_heap h s = record s { heap = h }

-- the bytes with zeros put in at an offset, or without those before the offset
abbrev pub opened_at : ℕ → ℤ → List ℕ → List ℕ
opened_at offset (pos by) bytes = take offset bytes ++ (zeros by ++ drop offset bytes)
opened_at offset (negsuc by) bytes = take (offset - (by + 1)) bytes ++ drop offset bytes

-- how many bytes before an offset are taken out
abbrev pub taken_out : ℤ → ℕ
taken_out (pos by) = 0
taken_out (negsuc by) = by + 1

-- a slot that would take so many bytes has no room, where so many pages are free
abbrev pub lacks_room : ℕ → ℕ → Slot → Bool
lacks_room free bytes s = nat_lt free (pages_for bytes - slot_pages s)

-- the bytes that the slot would take with n bytes in the block at the cut
abbrev pub length_with : Split Flex → ℕ → Slot → ℕ
length_with b n s = (slot_length s + flex_weight n) - weight b.here

-- the C heap is short of so many bytes, and may not grow
abbrev pub is_stuck : ℕ → Slot → Bool
is_stuck shortage s = nat_lt 0 shortage && not s.budging

-- the slot with a C heap in which a block was placed, and the block's address
abbrev pub with_placed : Placed → Slot → Slot × ℕ
with_placed p s = (with_heap p.heap s, heap_start + p.address)

-- ---- the calls: all refusals of each, its room, and what it leaves

-- a fresh slot, where so many pages are free
unfoldable pub slot_begin : ℕ → Granted Slot
slot_begin free = do
  _ ← refuse_if (nat_lt free (slot_pages new_slot)) NoRoom
  Ok new_slot

-- a block of n zeros on top, where so many pages are free: the slot, and the block's address
unfoldable pub slot_alloc : ℕ → ℕ → ℕ → Slot → Granted (Slot × ℕ)
slot_alloc free k n s = do
  _ ← refuse_if (is_used k s) AnchorInUse
  _ ← refuse_if (lacks_room free (slot_length s + flex_weight n) s) NoRoom
  Ok (with_block k (zeros n) s, flex_address s s.blocks)

-- the anchor's block
unfoldable pub slot_block : ℕ → Slot → Granted (Split Flex)
slot_block k s = found_or (block_of k s) NoBlock

-- the block's size and its address
unfoldable pub slot_size : ℕ → Slot → Granted ℕ
slot_size k s = do
  b ← slot_block k s
  Ok (length b.here.bytes)

unfoldable pub slot_address : ℕ → Slot → Granted ℕ
slot_address k s = do
  b ← slot_block k s
  Ok (flex_address s b.before)

-- the block away; those above it come down
unfoldable pub slot_free : ℕ → Slot → Granted Slot
slot_free k s = do
  b ← slot_block k s
  Ok (without b s)

-- the block cut to n bytes, or with zeros up to n
unfoldable pub slot_extend : ℕ → ℕ → ℕ → Slot → Granted Slot
slot_extend free k n s = do
  b ← slot_block k s
  _ ← refuse_if (lacks_room free (length_with b n s) s) NoRoom
  Ok (with_block_bytes b (fitted n b.here.bytes) s)

-- zeros put into the block at an offset, or the bytes before it taken out
unfoldable pub slot_mid : ℕ → ℕ → ℕ → ℤ → Slot → Granted Slot
slot_mid free k offset by s = do
  b ← slot_block k s
  _ ← refuse_if (nat_lt (length b.here.bytes) offset || nat_lt offset (taken_out by)) BadRange
  _ ← refuse_if (lacks_room free (length_with b (moved (length b.here.bytes) by) s) s) NoRoom
  Ok (with_block_bytes b (opened_at offset by b.here.bytes) s)

-- bytes written into a block, from an offset on
unfoldable pub slot_put : ℕ → ℕ → List ℕ → Slot → Granted Slot
slot_put k offset bytes s = do
  b ← slot_block k s
  _ ← refuse_if (nat_lt (length b.here.bytes) (offset + length bytes)) BadRange
  Ok (with_block_bytes b (written b.here.bytes offset bytes) s)

-- n bytes of a block, from an offset on
unfoldable pub slot_read : ℕ → ℕ → ℕ → Slot → Granted (List ℕ)
slot_read k offset n s = do
  b ← slot_block k s
  _ ← refuse_if (nat_lt (length b.here.bytes) (offset + n)) BadRange
  Ok (take n (drop offset b.here.bytes))

-- a block of n zeros in the C heap, which grows where it is too short: the slot, and the block's address
unfoldable pub slot_claim : ℕ → ℕ → Slot → Granted (Slot × ℕ)
slot_claim free n s = do
  _ ← refuse_if (n == 0) BadSize
  _ ← refuse_if (is_stuck (need n s.heap) s) NoBudge
  _ ← refuse_if (lacks_pages free (need n s.heap)) NoRoom
  Ok (with_placed (claim_growing n s.heap) s)

-- the block at an address of the C heap away
unfoldable pub slot_release : ℕ → Slot → Granted Slot
slot_release address s = do
  b ← found_or (heap_block_at address s) NotABlock
  Ok (with_heap (released b s.heap) s)

-- delta bytes more in the block at an address of the C heap, which grows where it is too short
unfoldable pub slot_resize : ℕ → ℕ → ℤ → Slot → Granted (Slot × ℕ)
slot_resize free address delta s = do
  b ← found_or (heap_block_at address s) NotABlock
  _ ← refuse_if (new_size delta b == 0) BadSize
  _ ← refuse_if (is_stuck (resize_need (new_size delta b) b s.heap) s) NoBudge
  _ ← refuse_if (lacks_pages free (resize_need (new_size delta b) b s.heap)) NoRoom
  Ok (with_placed (resize_growing (new_size delta b) b s.heap) s)

-- the pages that a claim of n bytes and then a block of no bytes would add
unfoldable pub slot_take_pages : ℕ → Slot → Granted ℕ
slot_take_pages n s = do
  _ ← refuse_if (n == 0) BadSize
  _ ← refuse_if (is_stuck (need n s.heap) s) NoBudge
  Ok (pages_for (slot_length s + round_up page_size (need n s.heap) + flex_weight 0) - slot_pages s)

-- budging set, and the state before
abbrev pub slot_set_budge : Bool → Slot → Slot × Bool
slot_set_budge on s = (record s { budging = on }, s.budging)
