use Rattle.rh_elements.proofs.Common.{◌+◌, ◌-◌, arith}
use Rattle.rh_sheet.specs.Pool.{numbered_text}
use Rattle.rh_map.proofs.Left.{left_less}
use Rattle.rh_elements.proofs.LoopLemmas.{numbers-behind}
use Rattle.rh_elements.proofs.pool.print_numbers.Goals as goal

pub loop-k-preserved : goal.loop-k-preserved
loop-k-preserved g c =
    left_less _ c.loop-k.invariant
    (numbers-behind numbered_text c.loop-k.k (c.args.n - (c.loop-k.k + 1)) (c.args.n - c.loop-k.k) (omega arith))
    c.print_number.ensures
