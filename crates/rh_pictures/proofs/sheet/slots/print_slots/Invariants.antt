use Rattle.rh_pictures.proofs.Common.{◌-◌, length, drop, flat_map, Left, slot_part, scene_at}
use Rattle.rh_pictures.specs.SheetForms.{looks_of}
use Rattle.rh_pictures.proofs.sheet.slots.print_slots.Given as goal

-- the slots from the place on are left
abbrev pub invariant-tasks : goal.invariant-tasks
invariant-tasks g l =
    let d = g.S.Sight.desk l.sight in
    Left (g.P.Pen.offered l.initial.pen) (g.P.Pen.offered l.pen) (flat_map (slot_part (looks_of l.lens) (scene_at d l.step)) d.tasks)
    (flat_map (slot_part (looks_of l.lens) (scene_at d l.step)) (drop l.i d.tasks))

abbrev pub decreases-tasks : goal.decreases-tasks
decreases-tasks g l = length (g.S.Sight.desk l.sight).tasks - l.i
