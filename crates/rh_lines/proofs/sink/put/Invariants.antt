use Rattle.std.proofs.Common.{◌≡◌, length, List, ℕ, ◌++◌}
use Rattle.rh_lines.specs.Flow.{Takes}
use Rattle.rh_lines.proofs.sink.put.Given as goal

-- what was taken so far and the rest are the bytes
abbrev pub invariant-loop-rest : goal.invariant-loop-rest
invariant-loop-rest g l =
    (front : List ℕ) × (l.bytes ≡ front ++ l.rest) × Takes (g.W.Sink.output l.initial.writer) (g.W.Sink.output l.writer) front

abbrev pub decreases-loop-rest : goal.decreases-loop-rest
decreases-loop-rest g l = length l.rest
