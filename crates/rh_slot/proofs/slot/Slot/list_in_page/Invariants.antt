-- What was listed are the blocks that the walk has passed, in the page or above it.
use Rattle.rh_slot.proofs.Common.{◌≡◌, ◌≤◌, ◌-◌, length, take, block_items, slot_in, WalksIn}
use Rattle.rh_slot.proofs.slot.Slot.list_in_page.Given as goal

abbrev pub invariant-walk : goal.invariant-walk
invariant-walk g l =
    let s = slot_in (g.S.Words.memory l.store) l.fn.self in
    record {
      stands : WalksIn s l.walk;
      on : l.start.passed ≤ l.walk.passed;
      above : l.start.place ≤ l.walk.place;
      listed : l.listed.items ≡ take l.walk.passed (block_items s);
    }

abbrev pub decreases-walk : goal.decreases-walk
decreases-walk g l = length (slot_in (g.S.Words.memory l.store) l.fn.self).blocks - l.walk.passed
