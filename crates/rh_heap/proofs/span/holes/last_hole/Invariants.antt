-- The holes up to the last one are passed, and the next link is read.
use Rattle.rh_heap.proofs.Common.{◌+◌, ◌-◌, ◌≤◌, LinksTo, bytes_in, heap_in}
use Rattle.rh_heap.proofs.WalkLaws.{HolesPassed}
use Rattle.rh_heap.proofs.span.holes.last_hole.Given as goal

abbrev pub invariant-walk : goal.invariant-walk
invariant-walk g l =
    let b = bytes_in (g.S.Words.memory l.store) l.span in
    HolesPassed b l.span.at (heap_in (g.S.Words.memory l.store) l.span) l.before l.last × LinksTo b l.span.at (l.span.at + l.last) l.next × (l.last ≤ l.target)

abbrev pub decreases-walk : goal.decreases-walk
decreases-walk g l = l.target - l.last
