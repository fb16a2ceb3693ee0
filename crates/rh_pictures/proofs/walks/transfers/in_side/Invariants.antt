use Rattle.rh_pictures.proofs.Common.{◌≡◌, ◌-◌, length, drop, find, map, flat_map, Task, in_item, ins_of, has_id}
use Rattle.rh_pictures.proofs.walks.transfers.in_side.Given as goal

-- no task so far has such a side
abbrev pub invariant-tasks : goal.invariant-tasks
invariant-tasks g l =
    let d = g.S.Sight.desk l.sight in
    find (has_id l.id) (flat_map (λ (t : Task). map (λ r. (t.name, in_item r)) t.taking) (drop l.i d.tasks))
    ≡ find (has_id l.id) (ins_of d)

abbrev pub decreases-tasks : goal.decreases-tasks
decreases-tasks g l = length (g.S.Sight.desk l.sight).tasks - l.i
