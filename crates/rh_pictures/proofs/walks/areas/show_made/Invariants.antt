use Rattle.rh_pictures.proofs.Common.{◌-◌, length, drop, map, flat_map, made_panel, scene_at}
use Rattle.rh_map.proofs.Left.{Left}
use Rattle.rh_pictures.proofs.walks.areas.show_made.Given as goal

-- the areas from the place on are left
abbrev pub invariant-areas : goal.invariant-areas
invariant-areas g l =
    let d = g.S.Sight.desk l.sight in
    let panel = made_panel (scene_at d l.step) in
    Left (g.P.Pen.offered l.initial.pen) (g.P.Pen.offered l.pen) (flat_map g.A.Artist.area_text (map panel d.made))
    (flat_map g.A.Artist.area_text (map panel (drop l.i d.made)))

abbrev pub decreases-areas : goal.decreases-areas
decreases-areas g l = length (g.S.Sight.desk l.sight).made - l.i
