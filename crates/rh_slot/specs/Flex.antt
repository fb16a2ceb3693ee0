-- Bytes put at the end of a flex block.
use Rattle.std.specs.Prelude.{ℕ, ◌+◌, List, length}
use Rattle.rh_defs.specs.Chain.{Granted, ◌>>=◌}
use Rattle.rh_defs.specs.Slot.{Slot, slot_block, slot_extend, slot_put}

-- a slot with bytes at the end of the anchor's block, where so many pages are free
unfoldable pub slot_append : ℕ → ℕ → List ℕ → Slot → Granted Slot
slot_append free k bytes s = do
  b ← slot_block k s
  longer ← slot_extend free k (length b.here.bytes + length bytes) s
  slot_put k (length b.here.bytes) bytes longer
