use Rattle.rh_pictures.proofs.Common.{◌++◌, drop, map, enumerate_from, flat_map, fixed_panel, made_panel, scene_at}
use Rattle.rh_figure.specs.Figure.{area_panels}
use Rattle.rh_map.proofs.Left.{Left}
use Rattle.rh_pictures.proofs.walks.areas.show_areas.Given as goal

-- the areas from the number on are left, and the made ones
abbrev pub invariant-loop-number : goal.invariant-loop-number
invariant-loop-number g l =
    let d = g.S.Sight.desk l.sight in
    let x = scene_at d l.step in
    Left (g.P.Pen.offered l.initial.pen) (g.P.Pen.offered l.pen) (flat_map g.A.Artist.area_text (area_panels x))
    (flat_map g.A.Artist.area_text (flat_map (fixed_panel x) (enumerate_from l.number (drop l.number d.areas)) ++ map (made_panel x) d.made))
