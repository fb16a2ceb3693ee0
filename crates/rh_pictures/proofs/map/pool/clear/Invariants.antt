use Rattle.rh_pictures.proofs.Common.{◌≡◌, ◌++◌, drop, replicate}
use Rattle.rh_pictures.proofs.map.pool.clear.Given as goal

-- those so far are free
abbrev pub invariant-loop-mark : goal.invariant-loop-mark
invariant-loop-mark l = l.marks ≡ replicate l.mark-index 46 ++ drop l.mark-index l.initial.marks
