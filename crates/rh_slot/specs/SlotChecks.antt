-- Slots in bytes from anywhere: when bytes are a slot's and no more, a slot's sums, and the first fault of bytes that
-- are no slot's.
use Rattle.std.specs.Prelude.{ℕ, zero, suc, ◌+◌, ◌-◌, ◌*◌, ◌%◌, ◌≤◌, ◌==◌, Bool, true, false, nat_le, ◌&&◌, ◌||◌, List, length, take, drop, Option, Some, None, Result, Ok, Err}
use Rattle.std.specs.List.{list_any}
use Rattle.rh_defs.specs.Bytes.{word}
use Rattle.rh_defs.specs.Pieces.{page_size, total}
use Rattle.rh_defs.specs.HeapImage.{fault_of}
use Rattle.rh_defs.specs.Slot.{Flex, Slot, slot_length, slot_pages, anchor_count}
use Rattle.rh_defs.specs.SlotImage.{SpellsSlot, heap_place, slot_of}
use Rattle.rh_defs.specs.declared.heap.HeapFault.{HeapFault}
use Rattle.rh_heap.specs.HeapChecks.{summary_of}
use Rattle.rh_slot.specs.declared.image.SlotFault.{SlotFault}
use Rattle.rh_slot.specs.declared.image.SlotFault.TheVariants.{BadLength, BadHeap, BadSize, BadAnchor, SparePage}
use Rattle.rh_slot.specs.declared.image.SlotSummary.{SlotSummary}
use Rattle.rh_slot.specs.declared.image.TheConstants.{LONGEST_SLOT}

-- the bytes are just those of a slot's pages, and no more than application space has
pub record IsSlotImage (b : List ℕ) (s : Slot) : Type 0 where
  pub most : length b ≤ LONGEST_SLOT
  pub spells : SpellsSlot b s

-- ---- sums

-- the bytes of a block, without its header
abbrev pub flex_size : Flex → ℕ
flex_size f = length f.bytes

-- what a slot in n bytes consists of
abbrev pub slot_summary : ℕ → Slot → SlotSummary
slot_summary n s = record {
  blocks = length s.blocks;
  bytes = total flex_size s.blocks;
  heap = summary_of s.heap;
  unused = n - slot_length s;
}

-- ---- faults

-- whether there are whole pages of bytes, one at least, and no more than application space has
abbrev pub has_slot_length : List ℕ → Bool
has_slot_length b = nat_le page_size (length b) && nat_le (length b) LONGEST_SLOT && length b % page_size == 0

-- the C heap's bytes: as many as its descriptor says, or all behind the anchor words where these are fewer
abbrev pub heap_bytes : List ℕ → List ℕ
heap_bytes b = take (word b (heap_place + 12)) (drop heap_place b)

-- whether one of the blocks has the anchor
abbrev pub has_anchor : List Flex → ℕ → Bool
has_anchor blocks k = list_any (λ (f : Flex). f.anchor == k) blocks

-- whether the anchor's word is 0, or one of the blocks has the anchor
abbrev pub is_hung : List ℕ → List Flex → ℕ → Bool
is_hung b blocks k = word b (4 * k) == 0 || has_anchor blocks k

-- whether that is so of each of the first n anchors
unfoldable pub are_hung : List ℕ → List Flex → ℕ → Bool
are_hung b blocks zero = true
are_hung b blocks (suc n) = are_hung b blocks n && is_hung b blocks n

-- The first fault by five tests, of which one counts only where those before it pass: that the length is right, the C
-- heap's own first fault, that the blocks end inside, that each anchor word is 0 or has a block, that no page is spare.
abbrev pub first_fault : Bool → Option HeapFault → Bool → Bool → Bool → Option SlotFault
first_fault false heap inside hung full = Some BadLength
first_fault true (Some fault) inside hung full = Some (BadHeap fault)
first_fault true None false hung full = Some BadSize
first_fault true None true false full = Some BadAnchor
first_fault true None true true false = Some SparePage
first_fault true None true true true = None

-- the first fault of bytes, none where they are a slot's
unfoldable pub slot_fault_of : List ℕ → Option SlotFault
slot_fault_of b =
    let s = slot_of true b in
    first_fault (has_slot_length b) (fault_of (heap_bytes b)) (nat_le (slot_length s) (length b))
    (are_hung b s.blocks anchor_count) (length b == page_size * slot_pages s)

-- the fault that a check answers
abbrev pub slot_fault_in : Result SlotSummary SlotFault → Option SlotFault
slot_fault_in (Ok sums) = None
slot_fault_in (Err fault) = Some fault
