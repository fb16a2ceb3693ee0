use Rattle.rh_heap.proofs.Common.{◌-◌, heap_in}
use Rattle.rh_heap.proofs.WalkLaws.{MarkWalk}
use Rattle.rh_heap.proofs.span.segments.used_around.Given as goal

abbrev pub invariant-walk : goal.invariant-walk
invariant-walk g l = MarkWalk l.span.at (heap_in (g.S.Words.memory l.store) l.span) l.fn.start.from l.target l.mark

abbrev pub decreases-walk : goal.decreases-walk
decreases-walk g l = l.target - l.mark.place
