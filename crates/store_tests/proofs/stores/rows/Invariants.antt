use Rattle.rh_defs.specs.Memory.{IsOpen}
use Rattle.store_tests.proofs.stores.rows.Given as goal

-- both areas stay open
abbrev pub invariant-loop-line : goal.invariant-loop-line
invariant-loop-line g l = record {
  x : IsOpen (g.S.Words.memory l.store) l.x.0;
  y : IsOpen (g.S.Words.memory l.store) l.y.0;
}
