use Rattle.rh_defs.specs.Memory.{IsOpen}
use Rattle.store_tests.proofs.limits.limits.Given as goal

-- the first area stays open
abbrev pub invariant-loop-number : goal.invariant-loop-number
invariant-loop-number g l = IsOpen (g.S.Words.memory l.store) l.first.0
