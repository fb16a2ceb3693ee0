use Rattle.rh_pictures.proofs.Common.{◌≡◌, ◌-◌, length, drop, map, flat_map, list_any, Task, out_item, outs_of, has_id}
use Rattle.rh_pictures.proofs.walks.transfers.has_out.Given as goal

-- no transfer with the id goes out of a task so far
abbrev pub invariant-tasks : goal.invariant-tasks
invariant-tasks g l =
    let d = g.S.Sight.desk l.sight in
    list_any (has_id l.id) (flat_map (λ (t : Task). map (λ r. (t.name, out_item r)) t.sending) (drop l.i d.tasks))
    ≡ list_any (has_id l.id) (outs_of d)

abbrev pub decreases-tasks : goal.decreases-tasks
decreases-tasks g l = length (g.S.Sight.desk l.sight).tasks - l.i
