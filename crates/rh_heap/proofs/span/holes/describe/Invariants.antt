use Rattle.rh_heap.proofs.Common.{◌-◌, base, heap_in}
use Rattle.rh_heap.proofs.SizeLaws.{Summed}
use Rattle.rh_heap.proofs.span.holes.describe.Given as goal

abbrev pub invariant-walk : goal.invariant-walk
invariant-walk g l = Summed l.span.at (heap_in (g.S.Words.memory l.store) l.span) l.link l.largest l.total

abbrev pub decreases-walk : goal.decreases-walk
decreases-walk g l = base (heap_in (g.S.Words.memory l.store) l.span) - l.link
