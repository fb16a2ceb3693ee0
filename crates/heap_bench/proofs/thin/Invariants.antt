use Rattle.rh_heap.specs.HeapSpans.{IsSpan}
use Rattle.heap_bench.proofs.thin.Given as goal

-- the span spells a heap
abbrev pub invariant-loop-pair : goal.invariant-loop-pair
invariant-loop-pair g l = IsSpan (g.S.Words.memory l.store) l.span
