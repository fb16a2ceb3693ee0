use Rattle.rh_map.proofs.Common.{◌≡◌, ◌+◌, ◌*◌, ◌++◌, map, range_with_len}
use Rattle.rh_figure.specs.Rows.{cell_mark}
use Rattle.rh_figure.specs.declared.limits.TheConstants.{CELL_BYTES}
use Rattle.rh_map.proofs.rows.add_cells.Given as goal

-- the characters so far were added
abbrev pub invariant-loop-cell : goal.invariant-loop-cell
invariant-loop-cell l =
    l.row ≡ l.initial.row ++ map (λ c. cell_mark l.pieces (l.at + CELL_BYTES * c)) (range_with_len 0 l.cell)
