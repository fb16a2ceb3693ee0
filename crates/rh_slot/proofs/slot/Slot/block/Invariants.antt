-- The walk has passed at most the blocks below the one that is asked for.
use Rattle.rh_slot.proofs.Common.{◌-◌, ◌≤◌, slot_in, WalksIn}
use Rattle.rh_slot.proofs.slot.Slot.block.Given as goal

abbrev pub invariant-walk : goal.invariant-walk
invariant-walk g l = record { stands : WalksIn (slot_in (g.S.Words.memory l.store) l.self) l.walk; most : l.walk.passed ≤ l.i }

abbrev pub decreases-walk : goal.decreases-walk
decreases-walk g l = l.i - l.walk.passed
