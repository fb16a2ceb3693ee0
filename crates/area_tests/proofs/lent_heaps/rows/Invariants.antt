use Rattle.std.specs.Prelude.{vec_items}
use Rattle.rh_lent_heap.specs.Heaps.{IsHeapBytes}
use Rattle.area_tests.proofs.lent_heaps.rows.Given as goal

-- the bytes spell a heap
abbrev pub invariant-loop-line : goal.invariant-loop-line
invariant-loop-line g l = IsHeapBytes (vec_items l.bytes)
