-- Walks over the row of flex blocks.
use Rattle.std.specs.Prelude.{◌≡◌, ℕ, ◌+◌, ◌-◌, ◌/◌, ◌%◌, ◌<◌, ◌≤◌, List, ◌++◌, length}
use Rattle.rh_defs.specs.Bytes.{word, with_part, SameOutside}
use Rattle.rh_defs.specs.Memory.{Memory, Edited, bytes}
use Rattle.rh_defs.specs.Pieces.{total}
use Rattle.rh_defs.specs.Slot.{Flex, Slot, weight, slot_start, heap_start, HaveAnchors}
use Rattle.rh_defs.specs.SlotImage.{Lie, heap_place, flex_place}
use Rattle.rh_defs.specs.declared.question.BlockItem.{BlockItem}
use Rattle.rh_defs.specs.declared.sizes.TheConstants.{FLEX_HEADER, WORD}
use Rattle.rh_slot.specs.Row.{Hung}

-- the walk that writes the anchor words of the blocks in n bytes has come to place p
pub record Hanging (b c : List ℕ) (from n p : ℕ) : Type 0 where
  pub before : List Flex
  pub rest : List Flex
  pub lie : Lie b from (before ++ rest)
  pub sum : total weight (before ++ rest) ≡ n
  pub anchors : HaveAnchors (before ++ rest)
  pub place : p ≡ from + total weight before
  pub left : p + total weight rest ≡ from + n
  pub rest_lies : Lie c p rest
  pub hung : Hung b c from before
  pub outside : SameOutside b c 0 heap_place

-- the walk has come to place p, where the anchor words stand apart and are yet to be written over the bytes
pub record HangsApart (b anchors : List ℕ) (from n p : ℕ) : Type 0 where
  pub long : length anchors ≡ heap_place
  pub walk : Hanging b (with_part b 0 anchors) from n p

-- the walk over an area of a memory has come to place p, and has changed nothing but anchor words
pub record Hangs (m n : Memory) (id from size p : ℕ) : Type 0 where
  pub only : Edited m n id 0 heap_place
  pub walk : Hanging (bytes m id) (bytes n id) from size p

-- the walk has passed some blocks and stands where they end
pub record Walked (s : Slot) (place : ℕ) : Type 0 where
  pub before : List Flex
  pub rest : List Flex
  pub is : s.blocks ≡ before ++ rest
  pub place_is : place ≡ flex_place s + total weight before

-- the block whose header stands at a place of the slot's bytes
abbrev pub row_item : List ℕ → ℕ → BlockItem
row_item b place = record { anchor = (word b place - slot_start) / WORD; address = slot_start + place + FLEX_HEADER; size = word b (place + WORD) }

-- The header of a flex block at a place of a slot lies so many bytes into a page, and names an anchor word that leads back to the block. This is its item.
pub record Headed (anchors page : List ℕ) (at place : ℕ) (item : BlockItem) : Type 0 where
  pub whole : at + FLEX_HEADER ≤ length page
  pub least : slot_start ≤ word page at
  pub most : word page at < heap_start
  pub multiple : word page at % WORD ≡ 0
  pub back : word anchors (word page at - slot_start) ≡ slot_start + place + FLEX_HEADER
  pub is : item ≡ record { anchor = (word page at - slot_start) / WORD; address = slot_start + place + FLEX_HEADER; size = word page (at + WORD) }
