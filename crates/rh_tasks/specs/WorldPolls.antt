-- What a call leaves of the desk, and the bytes of a slot that a poll reads.
use Rattle.std.specs.Prelude.{◌≡◌, ℕ, ◌+◌, ◌-◌, ◌≤◌, length, Result, Ok, Err}
use Rattle.std.specs.Result.{MatchResult}
use Rattle.rh_defs.specs.declared.refusal.Refusal.{Refusal}
use Rattle.rh_defs.specs.Chain.{Granted}
use Rattle.rh_defs.specs.Slot.{Slot, slot_start, heap_block_at}
use Rattle.rh_defs.specs.Places.{first_bytes}
use Rattle.rh_defs.specs.Desk.{Desk}
use Rattle.rh_defs.specs.SlotImage.{flex_place}
use Rattle.rh_tasks.specs.Shown.{Shown}

-- the desk is the one that is granted, or it was refused and nothing changed
abbrev pub Becomes : Granted Desk → Shown → Shown → Result (Unit {0}) Refusal → Type 0
Becomes granted old new result = MatchResult result (λ _. granted ≡ Ok new.desk) (λ refusal. (granted ≡ Err refusal) × (new ≡ old))

-- n bytes at a place of a slot's area are the first ones of a block of its C heap, or there are none
pub record AreFirst (place n : ℕ) (s : Slot) : Type 0 where
  pub address : ℕ
  pub most : ℕ
  pub place_is : place ≡ address - slot_start
  pub n_is : n ≡ length (first_bytes most (heap_block_at address s))
  pub below : place + n ≤ flex_place s
