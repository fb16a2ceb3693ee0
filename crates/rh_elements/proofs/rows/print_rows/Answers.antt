use Rattle.rh_elements.proofs.Common.{◌+◌, ◌-◌, arith, row_text, plot_of}
use Rattle.rh_sheet.specs.Frames.{shown_rows}
use Rattle.rh_map.proofs.Left.{left_less}
use Rattle.rh_elements.proofs.LoopLemmas.{numbers-behind}
use Rattle.rh_elements.proofs.rows.print_rows.Goals as goal

pub loop-i-preserved : goal.loop-i-preserved
loop-i-preserved g c =
    let rows = shown_rows c.args.frame.pages in
    left_less _ c.loop-i.invariant
    (numbers-behind (row_text c.args.frame (plot_of c.args.plot.now)) c.loop-i.i (rows - (c.loop-i.i + 1))
    (rows - c.loop-i.i) (omega arith))
    c.print_row.ensures
