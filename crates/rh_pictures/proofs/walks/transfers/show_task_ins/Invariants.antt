use Rattle.rh_pictures.proofs.Common.{◌≡◌, ◌++◌, take, map, flat_map, alone_among, comes_alone, ins_named, outs_of}
use Rattle.rh_pictures.proofs.walks.transfers.show_task_ins.Given as goal

-- those before the place were offered
abbrev pub invariant-loop-record : goal.invariant-loop-record
invariant-loop-record g l =
    g.P.Pen.offered l.pen ≡ g.P.Pen.offered l.initial.pen ++ flat_map g.A.Artist.transfer_text
    (map comes_alone (alone_among (outs_of (g.S.Sight.desk l.sight)) (ins_named l.task.name.now (take l.record-index l.task.taking.now))))
