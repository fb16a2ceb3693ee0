use Rattle.rh_heap.proofs.Common.{◌+◌, ◌-◌, heap_in}
use Rattle.rh_heap.proofs.WalkLaws.{UsedWalk}
use Rattle.rh_heap.proofs.span.segments.pass_in_run.Given as goal

abbrev pub invariant-walk : goal.invariant-walk
invariant-walk g l = UsedWalk l.fn.span.at (heap_in (g.S.Words.memory l.store) l.fn.span) l.mark l.target (l.mark.place + l.passed)

abbrev pub decreases-walk : goal.decreases-walk
decreases-walk g l = l.most - l.passed
