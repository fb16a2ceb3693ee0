use Rattle.std.proofs.Common.{◌≤◌, ◌-◌, length}
use Rattle.memchr.specs.Find.{Nowhere, Passes, is_byte}
use Rattle.rh_lines.proofs.words.first_space.Given as goal
use Rattle.rh_defs.specs.Bytes.{space}

-- no byte so far is a space
abbrev pub invariant-loop-at : goal.invariant-loop-at
invariant-loop-at l = Nowhere (Passes (is_byte space) l.piece) 0 l.at × (l.at ≤ length l.piece)

abbrev pub decreases-loop-at : goal.decreases-loop-at
decreases-loop-at l = length l.piece - l.at
