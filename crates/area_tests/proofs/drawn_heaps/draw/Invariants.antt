use Rattle.rh_heap.specs.HeapSpans.{IsSpan, heap_in}
use Rattle.rh_store.specs.Starts.{IsIndex}
use Rattle.area_tests.proofs.drawn_heaps.draw.Given as goal

-- both are heaps, and the map is one of the second
abbrev pub invariant-loop-call : goal.invariant-loop-call
invariant-loop-call g l = record {
  walked : IsSpan (g.S.Words.memory l.walked) l.walked_at;
  mapped : IsSpan (g.S.Words.memory l.mapped) l.mapped_at;
  starts : IsIndex l.starts (heap_in (g.S.Words.memory l.mapped) l.mapped_at);
}
