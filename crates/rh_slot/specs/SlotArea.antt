-- A slot in its area.
use Rattle.rh_defs.specs.Memory.{Memory, IsOpen, bytes}
use Rattle.rh_defs.specs.Slot as plain
use Rattle.rh_defs.specs.SlotImage.{SpellsSlot, slot_of}
use Rattle.rh_slot.specs.declared.slot.Slot.{Slot}

-- the slot that the area's bytes spell
abbrev pub slot_in : Memory → Slot → plain.Slot
slot_in m slot = slot_of slot.budge (bytes m slot.area.0)

-- the area's bytes now spell this slot
abbrev pub SpellsSlotIn : Memory → Slot → plain.Slot → Type 0
SpellsSlotIn m slot s = SpellsSlot (bytes m slot.area.0) s

-- the area is open, and its bytes spell a slot
pub record IsSlotIn (m : Memory) (slot : Slot) : Type 0 where
  pub opened : IsOpen m slot.area.0
  pub spells : SpellsSlotIn m slot (slot_in m slot)
