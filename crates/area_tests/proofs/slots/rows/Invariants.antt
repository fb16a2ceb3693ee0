use Rattle.rh_slot.specs.SlotArea.{IsSlotIn}
use Rattle.area_tests.proofs.slots.rows.Given as goal

-- the slot is one
abbrev pub invariant-loop-line : goal.invariant-loop-line
invariant-loop-line g l = IsSlotIn (g.S.Words.memory l.store) l.slot
