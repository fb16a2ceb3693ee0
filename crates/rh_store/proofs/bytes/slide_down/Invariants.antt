use Rattle.std.proofs.Common.{◌-◌}
use Rattle.rh_store.proofs.Slices.{SlidDown}
use Rattle.rh_store.proofs.bytes.slide_down.Given as goal

abbrev pub invariant-walk : goal.invariant-walk
invariant-walk l = SlidDown l.fn.b l.b l.from l.to l.n l.moved

abbrev pub decreases-walk : goal.decreases-walk
decreases-walk l = l.n - l.moved
