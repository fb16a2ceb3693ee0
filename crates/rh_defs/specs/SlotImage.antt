-- The bytes that spell a slot: its anchor words, the C heap, and the flex blocks above it. Read Slot and HeapImage
-- first. b is the bytes, s the slot, p the place of a block, f a flex block, k an anchor, or at most so many steps.
-- Places count from the slot's first byte, addresses from 0: an address is *slot_start* above its place.
-- `-` of naturals doesn't have to stop: *is_block* says first that the word is *slot_start* at least.
use Rattle.std.specs.Prelude.{◌≡◌, ℕ, zero, suc, ◌+◌, ◌-◌, ◌*◌, ◌/◌, ◌%◌, ◌<◌, ◌≤◌, ◌==◌, Bool, nat_le, nat_lt, ◌&&◌, if◌then◌else◌, List, [], ◌∷◌, length}
use Rattle.rh_defs.specs.Bytes.{word, part}
use Rattle.rh_defs.specs.declared.sizes.TheConstants.{C_HEAP_PLACE}
use Rattle.rh_defs.specs.Pieces.{page_size}
use Rattle.rh_defs.specs.HeapImage.{Spells, heap_of}
use Rattle.rh_defs.specs.Slot.{Flex, Slot, anchor_count, flex_weight, weight, slot_start, heap_start, slot_length, slot_pages, IsFree, HaveAnchors}

-- the C heap follows the anchor words
abbrev pub heap_place : ℕ
heap_place = C_HEAP_PLACE

-- the flex blocks follow the C heap
abbrev pub flex_place : Slot → ℕ
flex_place s = heap_place + s.heap.end

-- Blocks lie one after the other from place p on: the address of the anchor word, the size, and the bytes.
abbrev pub Lie : List ℕ → ℕ → List Flex → Type 0
Lie b p [] = Unit {0}
Lie b p (f ∷ blocks) =
    (word b p ≡ slot_start + 4 * f.anchor) × (word b (p + 4) ≡ length f.bytes) × (part b (p + 8) (length f.bytes) ≡ f.bytes) × Lie b (p + weight f) blocks

-- The anchor words of blocks that lie from place p on hold the blocks' addresses.
abbrev pub Anchored : List ℕ → ℕ → List Flex → Type 0
Anchored b p [] = Unit {0}
Anchored b p (f ∷ blocks) = (word b (4 * f.anchor) ≡ slot_start + p + 8) × Anchored b (p + weight f) blocks

-- the bytes hold the slot's anchor words, C heap and blocks
pub record SlotWords (b : List ℕ) (s : Slot) : Type 0 where
  pub heap : Spells b heap_place s.heap
  pub within : slot_length s ≤ length b
  pub lie : Lie b (flex_place s) s.blocks
  pub anchored : Anchored b (flex_place s) s.blocks
  pub none : (k : ℕ) → k < anchor_count → IsFree k s.blocks → word b (4 * k) ≡ 0
  pub anchors : HaveAnchors s.blocks

-- the bytes spell the slot: they hold it, and are its pages
pub record SpellsSlot (b : List ℕ) (s : Slot) : Type 0 where
  pub words : SlotWords b s
  pub pages : length b ≡ page_size * slot_pages s

-- whether a block stands at place p: its header names an anchor word that holds its address
abbrev pub is_block : List ℕ → ℕ → Bool
is_block b p =
    nat_le slot_start (word b p) && nat_lt (word b p) heap_start && word b p % 4 == 0
    && word b (word b p - slot_start) == slot_start + p + 8

-- the blocks that stand from place p on; the first argument bounds how many
unfoldable pub flex_in : ℕ → List ℕ → ℕ → List Flex
flex_in zero b p = []
flex_in (suc k) b p =
    if is_block b p then record { anchor = (word b p - slot_start) / 4; bytes = part b (p + 8) (word b (p + 4)) }
    ∷ flex_in k b (p + flex_weight (word b (p + 4)))
    else []

-- the slot that the bytes spell, if they spell one; whether budging is on does not stand in them
unfoldable pub slot_of : Bool → List ℕ → Slot
slot_of budging b = record {
  heap = heap_of b heap_place;
  blocks = flex_in (length b) b (heap_place + (heap_of b heap_place).end);
  budging = budging;
}
