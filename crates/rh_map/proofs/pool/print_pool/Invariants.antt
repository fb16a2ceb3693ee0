use Rattle.rh_map.proofs.Common.{◌+◌, ◌-◌, ◌/◌, length, map, range_with_len, shown_lines}
use Rattle.rh_figure.specs.Rows.{marks_row, marks_rows}
use Rattle.rh_map.proofs.Left.{Left}
use Rattle.rh_map.proofs.pool.print_pool.Given as goal

-- the rows from the index on are left
abbrev pub invariant-loop-i : goal.invariant-loop-i
invariant-loop-i g l =
    Left (g.P.Pen.offered l.initial.pen) (g.P.Pen.offered l.pen) (shown_lines (marks_rows l.marks))
    (shown_lines (map (marks_row l.marks) (range_with_len l.i ((length l.marks + 63) / 64 - l.i))))
