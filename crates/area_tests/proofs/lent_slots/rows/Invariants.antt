use Rattle.std.specs.Prelude.{vec_items}
use Rattle.rh_lent_slot.specs.Slots.{IsSlotBytes}
use Rattle.area_tests.proofs.lent_slots.rows.Given as goal

-- the bytes spell a slot
abbrev pub invariant-loop-line : goal.invariant-loop-line
invariant-loop-line g l = IsSlotBytes (vec_items l.bytes) l.slot
