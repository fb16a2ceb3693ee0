-- The walk stands where some blocks end, in the page or above it. If it began with those below passed, it has passed these.
use Rattle.rh_slot.proofs.Common.{◌≤◌, ◌+◌, ◌-◌, slot_length, slot_in, Walked, WalksIn}
use Rattle.rh_slot.proofs.slot.Slot.pass_in_page.Given as goal

abbrev pub invariant-walk : goal.invariant-walk
invariant-walk g l =
    let s = slot_in (g.S.Words.memory l.store) l.fn.self in
    record {
      walked : Walked s l.walk.place;
      above : l.start.place ≤ l.walk.place;
      walk : WalksIn s l.start → WalksIn s l.walk;
      passed : l.start.passed ≤ l.walk.passed;
      few : l.walk.passed + l.start.place ≤ l.start.passed + l.walk.place;
    }

abbrev pub decreases-walk : goal.decreases-walk
decreases-walk g l = slot_length (slot_in (g.S.Words.memory l.store) l.fn.self) - l.walk.place
