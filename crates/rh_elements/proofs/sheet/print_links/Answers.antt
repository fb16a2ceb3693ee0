use Rattle.rh_elements.proofs.Common.{◌+◌, ◌-◌, arith}
use Rattle.rh_sheet.specs.Sheet.{numbered_link}
use Rattle.rh_map.proofs.Left.{left_less}
use Rattle.rh_elements.proofs.LoopLemmas.{numbers-behind}
use Rattle.rh_elements.proofs.sheet.print_links.Goals as goal

pub loop-i-preserved : goal.loop-i-preserved
loop-i-preserved g c =
    left_less _ c.loop-i.invariant
    (numbers-behind numbered_link c.loop-i.i (c.args.n + 1 - (c.loop-i.i + 1)) (c.args.n + 1 - c.loop-i.i) (omega arith))
    c.print_numbered_link.ensures
