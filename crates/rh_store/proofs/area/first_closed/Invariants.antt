use Rattle.rh_store.proofs.Common.{ℕ, ◌<◌, IsSome, contents}
use Rattle.rh_store.proofs.area.first_closed.Given as goal

abbrev pub invariant-loop-i : goal.invariant-loop-i
invariant-loop-i l = (k : ℕ) → k < l.i → IsSome (contents l.areas k)
