use Rattle.rh_pictures.proofs.Common.{◌-◌, length, drop, flat_map, holdings, Left, scene_at}
use Rattle.rh_sheet.specs.Pool.{owner_squares}
use Rattle.rh_pictures.proofs.sheet.pool.print_all_squares.Given as goal

-- the owners from the place on are left
abbrev pub invariant-owners : goal.invariant-owners
invariant-owners g l =
    let d = g.S.Sight.desk l.sight in
    let x = scene_at d l.step in
    Left (g.P.Pen.offered l.initial.pen) (g.P.Pen.offered l.pen) (flat_map (owner_squares x) (holdings d))
    (flat_map (owner_squares x) (drop l.k (holdings d)))

abbrev pub decreases-owners : goal.decreases-owners
decreases-owners g l = length (holdings (g.S.Sight.desk l.sight)) - l.k
