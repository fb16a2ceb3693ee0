use Rattle.rh_pictures.proofs.Common.{◌-◌, length, drop, flat_map, Task, letterboxes_in, scene_at}
use Rattle.rh_figure.specs.Figure.{letterboxes}
use Rattle.rh_map.proofs.Left.{Left}
use Rattle.rh_pictures.proofs.walks.letters.show_letterboxes.Given as goal

-- the tasks from the place on are left
abbrev pub invariant-tasks : goal.invariant-tasks
invariant-tasks g l =
    let d = g.S.Sight.desk l.sight in
    let element = g.A.Artist.letterbox_text in
    Left (g.P.Pen.offered l.initial.pen) (g.P.Pen.offered l.pen) (flat_map element (letterboxes (scene_at d l.step)))
    (flat_map (λ (t : Task). flat_map element (letterboxes_in t.name t.handle l.step.messages.now)) (drop l.i d.tasks))

abbrev pub decreases-tasks : goal.decreases-tasks
decreases-tasks g l = length (g.S.Sight.desk l.sight).tasks - l.i
