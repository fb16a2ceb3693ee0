use Rattle.rh_heap.specs.HeapSpans.{IsSpan}
use Rattle.heap_bench.proofs.go_round.Given as goal

-- the span spells a heap
abbrev pub invariant-loop : goal.invariant-loop
invariant-loop g l = IsSpan (g.S.Words.memory l.store) l.span
