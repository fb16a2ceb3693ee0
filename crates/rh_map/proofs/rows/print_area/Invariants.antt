use Rattle.rh_map.proofs.Common.{◌≤◌, length, min, shown_lines}
use Rattle.rh_figure.specs.Rows.{area_rows, rows_down}
use Rattle.rh_figure.specs.declared.limits.TheConstants.{MOST_ROWS}
use Rattle.rh_map.specs.Written.{area_of}
use Rattle.rh_map.proofs.Left.{Left}
use Rattle.rh_map.proofs.rows.print_area.Given as goal

-- the rows below the index are left
abbrev pub invariant-loop-i : goal.invariant-loop-i
invariant-loop-i g l = record {
  within : l.i ≤ min (length l.area.pages.now) MOST_ROWS;
  left : Left (g.P.Pen.offered l.initial.pen) (g.P.Pen.offered l.pen)
      (shown_lines (area_rows (area_of l.area.start l.area.pages.now l.area.pieces.now)))
      (shown_lines (rows_down (area_of l.area.start l.area.pages.now l.area.pieces.now) (length l.area.pages.now) l.i));
}

abbrev pub decreases-loop-i : goal.decreases-loop-i
decreases-loop-i g l = l.i
