use Rattle.rh_pictures.proofs.Common.{◌≡◌, ◌++◌, take, map, flat_map, goes_out, ins_of, outs_named}
use Rattle.rh_pictures.proofs.walks.transfers.show_task_outs.Given as goal

-- those before the place were offered
abbrev pub invariant-loop-record : goal.invariant-loop-record
invariant-loop-record g l =
    g.P.Pen.offered l.pen ≡ g.P.Pen.offered l.initial.pen ++ flat_map g.A.Artist.transfer_text
    (map (goes_out (ins_of (g.S.Sight.desk l.sight))) (outs_named l.task.name.now (take l.record-index l.task.sending.now)))
