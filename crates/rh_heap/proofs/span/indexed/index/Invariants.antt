-- The marks of the segments that are passed are set, and no others.
use Rattle.rh_heap.proofs.Common.{◌≡◌, ◌-◌, length, heap_in}
use Rattle.rh_heap.proofs.MapLaws.{Mapped}
use Rattle.rh_heap.proofs.span.indexed.index.Given as goal

abbrev pub invariant-walk : goal.invariant-walk
invariant-walk g l = record {
  long : length l.starts ≡ length l.fn.starts;
  mapped : Mapped l.starts l.span.at (heap_in (g.S.Words.memory l.store) l.span) l.from l.place;
}

abbrev pub decreases-walk : goal.decreases-walk
decreases-walk g l = l.base - l.place
