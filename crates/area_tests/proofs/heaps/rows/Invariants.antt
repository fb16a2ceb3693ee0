use Rattle.rh_heap.specs.HeapSpans.{IsSpan}
use Rattle.area_tests.proofs.heaps.rows.Given as goal

-- the span spells a heap
abbrev pub invariant-loop-line : goal.invariant-loop-line
invariant-loop-line g l = IsSpan (g.S.Words.memory l.store) l.span
