-- What a call leaves of a slot.
use Rattle.std.specs.Prelude.{◌≡◌, OnErr}
use Rattle.rh_defs.specs.Memory.{Memory, OnlyArea}
use Rattle.rh_defs.specs.Chain.{Granted, answer_of, left_of}
use Rattle.rh_defs.specs.Slot as plain
use Rattle.rh_slot.specs.declared.slot.Slot.{Slot}
use Rattle.rh_slot.specs.SlotArea.{IsSlotIn, SpellsSlotIn, slot_in}

-- A call on the slot s is granted this: it answers so, the area's bytes spell the slot that is granted, no other area has changed, and where it is refused nothing at all.
pub record LeavesSlotIn {A : Type 0} (m n : Memory) (s : Slot) (granted : Granted (plain.Slot × A)) (result : Granted A) : Type 0 where
  pub answer : result ≡ answer_of granted
  pub slot : slot_in n s ≡ left_of (slot_in m s) granted
  pub spells : SpellsSlotIn n s (left_of (slot_in m s) granted)
  pub still : IsSlotIn n s
  pub only : OnlyArea m n s.area.0
  pub err : OnErr result (n ≡ m)
