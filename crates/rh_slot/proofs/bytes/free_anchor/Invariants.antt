-- The walk has passed anchors that have blocks.
use Rattle.rh_slot.proofs.Common.{◌-◌, slot_in, anchor_count}
use Rattle.rh_slot.proofs.FreeLaws.{AllUsed}
use Rattle.rh_slot.proofs.bytes.free_anchor.Given as goal

abbrev pub invariant-walk : goal.invariant-walk
invariant-walk g l = AllUsed (slot_in (g.S.Words.memory l.store) l.slot) l.k

abbrev pub decreases-walk : goal.decreases-walk
decreases-walk g l = anchor_count - l.k
