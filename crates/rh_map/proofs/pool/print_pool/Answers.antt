use Rattle.rh_map.proofs.Common.{◌+◌, ◌-◌, ◌/◌, ◌++◌, length, arith, codes, shown_line}
use Rattle.rh_figure.specs.Rows.{marks_row}
use Rattle.rh_map.proofs.Left.{left_less}
use Rattle.rh_map.proofs.RowLemmas.{rows-behind}
use Rattle.rh_map.proofs.pool.print_pool.Goals as goal

pub loop-i-preserved : goal.loop-i-preserved
loop-i-preserved g c =
    let rows = (length c.args.marks.now + 63) / 64 in
    left_less (shown_line (marks_row c.args.marks.now c.loop-i.i) ++ codes "\n") c.loop-i.invariant
    (rows-behind c.args.marks.now c.loop-i.i (rows - (c.loop-i.i + 1)) (rows - c.loop-i.i) (omega arith))
    c.print_marks.ensures
