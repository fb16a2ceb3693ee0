-- Sums of a slot that fit words.
use Rattle.std.specs.Prelude.{◌<◌, ◌^◌}
use Rattle.rh_slot.specs.declared.image.SlotSummary.{SlotSummary}
use Rattle.rh_run.specs.CheckedSlot.{heap_length}

-- each of a slot's sums is less than 2^32
pub record AreSlotWords (s : SlotSummary) : Type 0 where
  pub blocks : s.blocks < 2 ^ 32
  pub bytes : s.bytes < 2 ^ 32
  pub heap : heap_length s.heap < 2 ^ 32
  pub unused : s.unused < 2 ^ 32
