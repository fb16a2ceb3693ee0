-- The lines above are passed, and what is left of this one is in the word.
use Rattle.rh_heap.proofs.BitLaws.{Scan}
use Rattle.rh_heap.proofs.span.starts.last_hole_below.Given as goal
use Rattle.rh_store.specs.declared.starts.TheConstants.{HOLES}

abbrev pub invariant-walk : goal.invariant-walk
invariant-walk l = Scan HOLES l.starts l.n l.line l.word

abbrev pub decreases-walk : goal.decreases-walk
decreases-walk l = l.line
