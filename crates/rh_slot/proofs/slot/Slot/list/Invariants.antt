-- What was listed are the blocks that the walk has passed.
use Rattle.rh_slot.proofs.Common.{◌≡◌, ◌-◌, length, take, block_items, slot_in, WalksIn}
use Rattle.rh_slot.proofs.slot.Slot.list.Given as goal

abbrev pub invariant-walk : goal.invariant-walk
invariant-walk g l =
    let s = slot_in (g.S.Words.memory l.store) l.self in
    record { stands : WalksIn s l.walk; listed : l.items.items ≡ take l.walk.passed (block_items s) }

abbrev pub decreases-walk : goal.decreases-walk
decreases-walk g l = length (slot_in (g.S.Words.memory l.store) l.self).blocks - l.walk.passed
