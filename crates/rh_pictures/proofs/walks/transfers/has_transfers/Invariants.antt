use Rattle.rh_pictures.proofs.Common.{◌≡◌, ◌-◌, length, drop, flat_map}
use Rattle.rh_pictures.proofs.TransferLemmas.{are_some, ins, outs}
use Rattle.rh_pictures.proofs.walks.transfers.has_transfers.Given as goal

-- no task so far has a record
abbrev pub invariant-tasks : goal.invariant-tasks
invariant-tasks g l =
    let d = g.S.Sight.desk l.sight in
    are_some (flat_map outs (drop l.i d.tasks)) (flat_map ins (drop l.i d.tasks)) ≡ are_some (flat_map outs d.tasks) (flat_map ins d.tasks)

abbrev pub decreases-tasks : goal.decreases-tasks
decreases-tasks g l = length (g.S.Sight.desk l.sight).tasks - l.i
