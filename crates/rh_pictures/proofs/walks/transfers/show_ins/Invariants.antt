use Rattle.rh_pictures.proofs.Common.{◌-◌, length, drop, map, flat_map, Task, alone_among, comes_alone, ins_named, ins_of, outs_of}
use Rattle.rh_map.proofs.Left.{Left}
use Rattle.rh_pictures.proofs.walks.transfers.show_ins.Given as goal

-- the tasks from the place on are left
abbrev pub invariant-tasks : goal.invariant-tasks
invariant-tasks g l =
    let d = g.S.Sight.desk l.sight in
    let element = g.A.Artist.transfer_text in
    Left (g.P.Pen.offered l.initial.pen) (g.P.Pen.offered l.pen) (flat_map element (map comes_alone (alone_among (outs_of d) (ins_of d))))
    (flat_map (λ (t : Task). flat_map element (map comes_alone (alone_among (outs_of d) (ins_named t.name t.taking)))) (drop l.i d.tasks))

abbrev pub decreases-tasks : goal.decreases-tasks
decreases-tasks g l = length (g.S.Sight.desk l.sight).tasks - l.i
