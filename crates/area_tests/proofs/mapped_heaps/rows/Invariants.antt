use Rattle.rh_heap.specs.HeapSpans.{IsSpan, heap_in}
use Rattle.rh_store.specs.Starts.{IsIndex}
use Rattle.area_tests.proofs.mapped_heaps.rows.Given as goal

-- the span spells a heap, and the map is the heap's
abbrev pub invariant-loop-line : goal.invariant-loop-line
invariant-loop-line g l = record {
  span : IsSpan (g.S.Words.memory l.store) l.span;
  starts : IsIndex l.starts (heap_in (g.S.Words.memory l.store) l.span);
}
