-- Slots in lent bytes, and what a call on one leaves.
use Rattle.std.specs.Prelude.{◌≡◌, ℕ, ◌*◌, ◌≤◌, List, length, OnErr}
use Rattle.rh_defs.specs.Chain.{Granted, answer_of, left_of}
use Rattle.rh_defs.specs.Slot.{Slot}
use Rattle.rh_defs.specs.SlotImage.{SpellsSlot, slot_of}
use Rattle.rh_defs.specs.declared.sizes.TheConstants.{PAGE}
use Rattle.rh_lent_slot.specs.LentPages.{first_pages, pages_behind}
use Rattle.rh_lent_slot.specs.declared.slot.LentSlot.{LentSlot}
use Rattle.rh_store.specs.Limits.{area_limit}

-- the bytes of the slot's pages: the first ones
abbrev pub lent_slot_bytes : List ℕ → LentSlot → List ℕ
lent_slot_bytes b s = first_pages s.pages b

-- the slot that they spell
abbrev pub lent_slot_in : List ℕ → LentSlot → Slot
lent_slot_in b s = slot_of s.budge (lent_slot_bytes b s)

-- how many whole pages are free behind them
abbrev pub free_in : List ℕ → LentSlot → ℕ
free_in b s = pages_behind s.pages b

-- the slot's pages lie in the bytes and spell a slot, and the bytes are at most 1 GiB
pub record IsSlotBytes (b : List ℕ) (s : LentSlot) : Type 0 where
  pub few : length b ≤ area_limit
  pub within : PAGE * s.pages ≤ length b
  pub spells : SpellsSlot (lent_slot_bytes b s) (lent_slot_in b s)

-- A call on the slot s of bytes b is granted this: it answers so, the slot t of bytes c is then the one that is granted,
-- budging is as it was, and where the call is refused the slot has the same pages, and each byte of them has stayed.
pub record LeavesSlot {A : Type 0} (b c : List ℕ) (s t : LentSlot) (granted : Granted (Slot × A)) (result : Granted A)
    : Type 0 where
  pub answer : result ≡ answer_of granted
  pub slot : lent_slot_in c t ≡ left_of (lent_slot_in b s) granted
  pub bytes : IsSlotBytes c t
  pub budge : t.budge ≡ s.budge
  pub err : OnErr result ((t.pages ≡ s.pages) × (lent_slot_bytes c t ≡ lent_slot_bytes b s))
