use Rattle.rh_elements.proofs.Common.{◌-◌, flat_map, range_with_len}
use Rattle.rh_sheet.specs.Pool.{numbered_text}
use Rattle.rh_map.proofs.Left.{Left}
use Rattle.rh_elements.proofs.pool.print_numbers.Given as goal

-- those from the index on are left
abbrev pub invariant-loop-k : goal.invariant-loop-k
invariant-loop-k g l =
    Left (g.P.Pen.offered l.initial.pen) (g.P.Pen.offered l.pen) (flat_map numbered_text (range_with_len 0 l.n))
    (flat_map numbered_text (range_with_len l.k (l.n - l.k)))
