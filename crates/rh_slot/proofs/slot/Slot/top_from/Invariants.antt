-- The walk stands where some blocks end.
use Rattle.rh_slot.proofs.Common.{◌-◌, slot_length, slot_in, Walked}
use Rattle.rh_slot.proofs.slot.Slot.top_from.Given as goal

abbrev pub invariant-walk : goal.invariant-walk
invariant-walk g l = Walked (slot_in (g.S.Words.memory l.store) l.self) l.place

abbrev pub decreases-walk : goal.decreases-walk
decreases-walk g l = slot_length (slot_in (g.S.Words.memory l.store) l.self) - l.place
