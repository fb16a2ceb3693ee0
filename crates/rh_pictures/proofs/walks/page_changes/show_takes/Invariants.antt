use Rattle.rh_pictures.proofs.Common.{◌-◌, length, drop, flat_map, holdings, scene_at}
use Rattle.rh_figure.specs.Changes.{takes_text}
use Rattle.rh_map.proofs.Left.{Left}
use Rattle.rh_pictures.proofs.walks.page_changes.show_takes.Given as goal

-- the owners from the place on are left
abbrev pub invariant-owners : goal.invariant-owners
invariant-owners g l =
    let d = g.S.Sight.desk l.sight in
    let element = g.A.Artist.change_text in
    let of = takes_text (scene_at d l.step) in
    Left (g.P.Pen.offered l.initial.pen) (g.P.Pen.offered l.pen) (flat_map element (flat_map of (holdings d)))
    (flat_map element (flat_map of (drop l.k (holdings d))))

abbrev pub decreases-owners : goal.decreases-owners
decreases-owners g l = length (holdings (g.S.Sight.desk l.sight)) - l.k
