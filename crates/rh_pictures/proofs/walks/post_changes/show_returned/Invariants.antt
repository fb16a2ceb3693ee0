use Rattle.rh_pictures.proofs.Common.{drop, map, flat_map, scene_at, return_lines}
use Rattle.rh_map.proofs.Left.{Left}
use Rattle.rh_figure.specs.Changes.{bouncing, returns_text}
use Rattle.rh_pictures.proofs.walks.post_changes.show_returned.Given as goal

-- the messages from the place on are left
abbrev pub invariant-loop-message : goal.invariant-loop-message
invariant-loop-message g l =
    let d = g.S.Sight.desk l.sight in
    let x = scene_at d l.step in
    Left (g.P.Pen.offered l.initial.pen) (g.P.Pen.offered l.pen)
    (flat_map g.A.Artist.change_text (map (returns_text x) (bouncing x)))
    (flat_map g.A.Artist.change_text (flat_map (return_lines d l.step.kept.now.messages) (drop l.message-index l.step.messages.now)))
