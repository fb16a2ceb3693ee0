use Rattle.rh_elements.proofs.Common.{◌+◌, ◌-◌, flat_map, range_with_len}
use Rattle.rh_sheet.specs.Sheet.{numbered_link}
use Rattle.rh_map.proofs.Left.{Left}
use Rattle.rh_elements.proofs.sheet.print_links.Given as goal

-- those from the index on are left
abbrev pub invariant-loop-i : goal.invariant-loop-i
invariant-loop-i g l =
    Left (g.P.Pen.offered l.initial.pen) (g.P.Pen.offered l.pen) (flat_map numbered_link (range_with_len 1 l.n))
    (flat_map numbered_link (range_with_len l.i (l.n + 1 - l.i)))
