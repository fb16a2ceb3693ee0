use Rattle.rh_elements.proofs.Common.{length, escape}
use Rattle.rh_map.proofs.Left.{Left}
use Rattle.rh_elements.proofs.escape.put_escaped.Given as goal

-- the bytes of the rest are left
abbrev pub invariant-loop-rest : goal.invariant-loop-rest
invariant-loop-rest g l = Left (g.P.Pen.offered l.initial.pen) (g.P.Pen.offered l.pen) (escape l.text) (escape l.rest)

abbrev pub decreases-loop-rest : goal.decreases-loop-rest
decreases-loop-rest g l = length l.rest
