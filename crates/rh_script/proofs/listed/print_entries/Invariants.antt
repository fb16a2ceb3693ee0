use Rattle.rh_script.proofs.Common.{◌≡◌, ◌++◌, ◌∷◌, [], ◌-◌, length, take, decimal, flat_map, area_items, area_line, ok}
use Rattle.rh_script.proofs.listed.print_entries.Given as goal

-- the number and the areas and slots so far were written, or wait in the row
abbrev pub invariant-items : goal.invariant-items
invariant-items g l =
    g.P.Pen.offered l.pen ++ l.row
    ≡ g.P.Pen.offered l.initial.pen ++ (ok (decimal l.free ∷ []) ++ flat_map area_line (take l.i (area_items l.world.desk)))

abbrev pub decreases-items : goal.decreases-items
decreases-items g l = length (area_items l.world.desk) - l.i
