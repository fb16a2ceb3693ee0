use Rattle.rh_store.proofs.Slices.{SlidUp}
use Rattle.rh_store.proofs.bytes.slide_up.Given as goal

abbrev pub invariant-walk : goal.invariant-walk
invariant-walk l = SlidUp l.fn.b l.b l.from l.to l.n l.left

abbrev pub decreases-walk : goal.decreases-walk
decreases-walk l = l.left
