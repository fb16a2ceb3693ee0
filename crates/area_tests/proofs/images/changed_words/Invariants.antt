use Rattle.rh_heap.specs.HeapSpans.{IsSpan}
use Rattle.area_tests.proofs.images.changed_words.Given as goal

-- the span spells a heap
abbrev pub invariant-loop-image : goal.invariant-loop-image
invariant-loop-image g l = IsSpan (g.S.Words.memory l.store) l.span
