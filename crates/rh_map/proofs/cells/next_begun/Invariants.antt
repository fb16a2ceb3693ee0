use Rattle.rh_map.proofs.Common.{◌≡◌, length, filter}
use Rattle.rh_figure.specs.Rows.{begins_in}
use Rattle.rh_map.proofs.cells.next_begun.Given as goal

-- no block before the rest begins in the cell
abbrev pub invariant-loop-piece : goal.invariant-loop-piece
invariant-loop-piece l = filter (begins_in l.at) l.pieces ≡ filter (begins_in l.at) l.rest

abbrev pub decreases-loop-piece : goal.decreases-loop-piece
decreases-loop-piece l = length l.rest
