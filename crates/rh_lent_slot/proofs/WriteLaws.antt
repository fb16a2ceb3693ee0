-- Bytes written at an address of a slot: what is granted, and what they leave of the memory.
use Rattle.rh_lent_slot.proofs.Common.{◌≡◌, ℕ, ◌-◌, Bool, true, false, List, length, refl, arith, Ok, Err, ◌||◌, is_some, with_part, no_answer, Memory, bytes}
use Rattle.rh_lent_slot.proofs.Common.{BadRange}
use Rattle.rh_lent_slot.proofs.Common.{slot_write}
use Rattle.rh_defs.specs.Chain.{◌>>=◌, refuse_if}
use Rattle.rh_defs.specs.Memory.{with_bytes}
use Rattle.rh_defs.specs.Places.{buffer_at, written_in}
use Rattle.rh_defs.specs.Slot as plain
use Rattle.rh_defs.specs.Slot.{holds}
use Rattle.rh_defs.specs.SlotImage.{SpellsSlot}
use Rattle.rh_slot.specs.SlotArea.{IsSlotIn, slot_in}
use Rattle.rh_slot.specs.SlotCalls.{LeavesSlotIn}
use Rattle.rh_slot.specs.declared.slot.Slot.{Slot}
use Rattle.rh_slot.proofs.ReachLaws.{Reached, Within, reached, within, landed_spells, landed_budging}
use Rattle.rh_slot.proofs.WriteLaws.{copied}

either_holds : (a b : Bool) → b ≡ true → (a || b) ≡ true
either_holds true b e = refl
either_holds false b e = e

module _ (x : ℕ) (xs : List ℕ) (s : plain.Slot) where
  pub write_refused : holds x (length xs) s ≡ false → no_answer (slot_write x xs s) ≡ Err BadRange
  unfolding slot_write ◌>>=◌ refuse_if
  write_refused e = rw e refl

  pub write_granted : holds x (length xs) s ≡ true
      → no_answer (slot_write x xs s) ≡ Ok (written_in x xs (buffer_at x (length xs) s) s, tt)
  unfolding slot_write ◌>>=◌ refuse_if
  write_granted e = rw e refl

  reach : (b : List ℕ) → SpellsSlot b s → holds x (length xs) s ≡ true → Reached s x (length xs) xs
  reach b k e =
      reached s x (length xs) xs (omega arith) k.words.heap.heap.fits
      (either_holds (is_some (buffer_at x (length xs) s)) (holds x (length xs) s) e)

  -- where a slot's block holds the bytes, they lie in those of the slot
  pub write_within : (b : List ℕ) → SpellsSlot b s → holds x (length xs) s ≡ true → Within b x (length xs)
  write_within b k e = within b s x xs k (reach b k e)

-- bytes are put into a slot's area, where a block holds them
pub write_leaves : (m n : Memory) (slot : Slot) (x : ℕ) (xs : List ℕ) → IsSlotIn m slot
    → holds x (length xs) (slot_in m slot) ≡ true
    → n ≡ with_bytes m slot.area.0 (with_part (bytes m slot.area.0) (x - 32768) xs)
    → LeavesSlotIn m n slot (no_answer (slot_write x xs (slot_in m slot))) (Ok tt)
write_leaves m n slot x xs k e is =
    let s = slot_in m slot in
    let r = reach x xs s (bytes m slot.area.0) k.spells e in
    copied m n slot _ _ (x - 32768) xs (write_granted x xs s e) (landed_budging s x xs r) is
    (landed_spells (bytes m slot.area.0) s x xs k.spells r)
