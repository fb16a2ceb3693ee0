use Rattle.rh_elements.proofs.Common.{◌-◌, flat_map, range_with_len, row_text, plot_of}
use Rattle.rh_sheet.specs.Frames.{shown_rows}
use Rattle.rh_sheet.specs.SheetRows.{rows_text}
use Rattle.rh_map.proofs.Left.{Left}
use Rattle.rh_elements.proofs.rows.print_rows.Given as goal

-- the rows from the index on are left
abbrev pub invariant-loop-i : goal.invariant-loop-i
invariant-loop-i g l =
    Left (g.P.Pen.offered l.initial.pen) (g.P.Pen.offered l.pen) (rows_text l.frame (plot_of l.plot))
    (flat_map (row_text l.frame (plot_of l.plot)) (range_with_len l.i (shown_rows l.frame.pages - l.i)))
