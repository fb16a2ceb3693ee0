use Rattle.rh_defs.specs.Memory.{IsOpen}
use Rattle.store_tests.proofs.lent.called.Given as goal

-- the area stays open
abbrev pub invariant-loop-line : goal.invariant-loop-line
invariant-loop-line g l = IsOpen (g.S.Words.memory l.store) l.id.0
