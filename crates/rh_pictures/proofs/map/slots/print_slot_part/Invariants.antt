use Rattle.rh_pictures.proofs.Common.{◌-◌, length, drop, flat_map, lines_of_slots, scene_at}
use Rattle.rh_pictures.specs.Parts.{slot_lines}
use Rattle.rh_pictures.proofs.PlaceLemmas.{Left}
use Rattle.rh_pictures.proofs.map.slots.print_slot_part.Given as goal

-- the slots from the place on are left
abbrev pub invariant-tasks : goal.invariant-tasks
invariant-tasks g l =
    let d = g.S.Sight.desk l.sight in
    Left (g.P.Pen.offered l.initial.pen) (g.P.Pen.offered l.pen) (lines_of_slots (scene_at d l.step))
    (flat_map (slot_lines (scene_at d l.step)) (drop l.i d.tasks))

abbrev pub decreases-tasks : goal.decreases-tasks
decreases-tasks g l = length (g.S.Sight.desk l.sight).tasks - l.i
