-- Bytes written at an address of a slot.
use Rattle.std.specs.Prelude.{ℕ, not, List, length, Ok}
use Rattle.rh_defs.specs.Chain.{Granted, ◌>>=◌, refuse_if}
use Rattle.rh_defs.specs.Places.{buffer_at, written_in}
use Rattle.rh_defs.specs.Slot.{Slot, holds}
use Rattle.rh_defs.specs.declared.refusal.Refusal.TheVariants.{BadRange}

-- bytes written at an address, in the one block that holds so many there
unfoldable pub slot_write : ℕ → List ℕ → Slot → Granted Slot
slot_write x bytes s = do
  _ ← refuse_if (not (holds x (length bytes) s)) BadRange
  Ok (written_in x bytes (buffer_at x (length bytes) s) s)
