use Rattle.rh_map.proofs.Common.{◌-◌, ◌++◌, length, arith, codes, shown_line}
use Rattle.rh_figure.specs.Rows.{area_row}
use Rattle.rh_map.specs.Written.{area_of}
use Rattle.rh_map.proofs.Left.{left_less}
use Rattle.rh_map.proofs.RowLemmas.{rows-below}
use Rattle.rh_map.proofs.rows.print_area.Goals as goal

pub loop-i-preserved : goal.loop-i-preserved
loop-i-preserved g c =
    let area = area_of c.args.area.now.start c.args.area.now.pages.now c.args.area.now.pieces.now in
    record {
      within = omega arith;
      left = left_less (shown_line (area_row area (length c.args.area.now.pages.now) (c.loop-i.i - 1)) ++ codes "\n") c.loop-i.invariant.left
          (rows-below area (length c.args.area.now.pages.now) (c.loop-i.i - 1) c.loop-i.i (omega arith))
          c.print_row.ensures;
    }
