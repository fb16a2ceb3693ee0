-- Bytes that are moved from one task's block to another's.
use Rattle.std.specs.Prelude.{ℕ, not, ◌&&◌, ◌||◌, ◌==◌, Ok}
use Rattle.rh_defs.specs.declared.refusal.Refusal.TheVariants.{NoTask, BadRange}
use Rattle.rh_defs.specs.Chain.{Granted, ◌>>=◌, ◌>>◌, refuse_if, found_or}
use Rattle.rh_defs.specs.Slot.{holds}
use Rattle.rh_defs.specs.Places.{buffer_at, bytes_held, written_in, overlap}
use Rattle.rh_defs.specs.Desk.{Desk, task_at, with_slot}

-- n bytes moved from an address of one task's slot to an address of another's, or of its own
unfoldable pub transferred : Desk → ℕ → ℕ → ℕ → ℕ → ℕ → Granted Desk
transferred d from address to address2 n = do
  t ← found_or (task_at from d) NoTask
  r ← found_or (task_at to d) NoTask
  refuse_if (not (holds address n t.slot) || not (holds address2 n r.slot)) BadRange
  refuse_if (from == to && overlap address n address2 n) BadRange
  Ok (with_slot to (written_in address2 (bytes_held address n t.slot) (buffer_at address2 n r.slot) r.slot) d)
