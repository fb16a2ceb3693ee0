-- The walk stands where the blocks that it has passed end.
use Rattle.rh_slot.proofs.Common.{◌-◌, length, slot_in, WalksIn}
use Rattle.rh_slot.proofs.slot.Slot.count.Given as goal

abbrev pub invariant-walk : goal.invariant-walk
invariant-walk g l = WalksIn (slot_in (g.S.Words.memory l.store) l.self) l.walk

abbrev pub decreases-walk : goal.decreases-walk
decreases-walk g l = length (slot_in (g.S.Words.memory l.store) l.self).blocks - l.walk.passed
