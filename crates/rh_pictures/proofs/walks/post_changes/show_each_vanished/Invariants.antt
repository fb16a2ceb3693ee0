use Rattle.rh_pictures.proofs.Common.{drop, filter, map, flat_map, scene_at}
use Rattle.rh_map.proofs.Left.{Left}
use Rattle.rh_figure.specs.Changes.{has_vanished, vanishes_text}
use Rattle.rh_pictures.specs.Inner.ReturnLines.{vanish_lines}
use Rattle.rh_pictures.proofs.walks.post_changes.show_each_vanished.Given as goal

-- the messages from the place on are left
abbrev pub invariant-loop-message : goal.invariant-loop-message
invariant-loop-message g l =
    let x = scene_at (g.S.Sight.desk l.sight) l.step in
    Left (g.P.Pen.offered l.initial.pen) (g.P.Pen.offered l.pen)
    (flat_map g.A.Artist.change_text (map (vanishes_text x) (filter (has_vanished x) l.messages)))
    (flat_map g.A.Artist.change_text (flat_map (vanish_lines x) (drop l.message-index l.messages)))
