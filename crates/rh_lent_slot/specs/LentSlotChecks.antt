-- Slots in bytes from anywhere: when the first pages are one, and their first fault.
use Rattle.std.specs.Prelude.{ℕ, ◌*◌, ◌≤◌, nat_le, ◌&&◌, if◌then◌else◌, List, length, Option, Some}
use Rattle.rh_defs.specs.declared.sizes.TheConstants.{PAGE}
use Rattle.rh_lent_slot.specs.Slots.{IsSlotBytes, lent_slot_bytes}
use Rattle.rh_lent_slot.specs.declared.slot.LentSlot.{LentSlot}
use Rattle.rh_slot.specs.SlotChecks.{slot_fault_of}
use Rattle.rh_slot.specs.declared.image.SlotFault.{SlotFault}
use Rattle.rh_slot.specs.declared.image.SlotFault.TheVariants.{BadLength}
use Rattle.rh_slot.specs.declared.image.TheConstants.{LONGEST_SLOT}
use Rattle.rh_store.specs.Limits.{area_limit}

-- the slot's pages lie in the bytes and spell a slot, and are no more than application space has
pub record IsShortSlot (b : List ℕ) (s : LentSlot) : Type 0 where
  pub most : PAGE * s.pages ≤ LONGEST_SLOT
  pub slot : IsSlotBytes b s

-- the first fault of the slot's pages: that of the length where they don't lie in the bytes, or these are more than
-- 1 GiB, and else that of the bytes of the pages
unfoldable pub pages_fault_of : List ℕ → LentSlot → Option SlotFault
pages_fault_of b s =
    if nat_le (length b) area_limit && nat_le (PAGE * s.pages) (length b) then slot_fault_of (lent_slot_bytes b s)
    else Some BadLength
