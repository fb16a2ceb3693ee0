use Rattle.rh_map.proofs.Common.{◌≡◌, length, find}
use Rattle.rh_figure.specs.Rows.{has_byte}
use Rattle.rh_map.proofs.cells.going_on.Given as goal

-- no piece before the rest has the byte
abbrev pub invariant-loop-piece : goal.invariant-loop-piece
invariant-loop-piece l = find (has_byte l.at) l.pieces ≡ find (has_byte l.at) l.rest

abbrev pub decreases-loop-piece : goal.decreases-loop-piece
decreases-loop-piece l = length l.rest
