-- The walk has passed some blocks, and the bytes lie in none of them.
use Rattle.rh_slot.proofs.Common.{◌-◌, slot_length, slot_in}
use Rattle.rh_slot.proofs.WalkLaws.{Unheld}
use Rattle.rh_slot.proofs.slot.Slot.in_flex.Given as goal

abbrev pub invariant-walk : goal.invariant-walk
invariant-walk g l = Unheld (slot_in (g.S.Words.memory l.store) l.self) l.place l.address l.n

abbrev pub decreases-walk : goal.decreases-walk
decreases-walk g l = slot_length (slot_in (g.S.Words.memory l.store) l.self) - l.place
