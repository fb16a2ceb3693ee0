use Rattle.rh_scene.proofs.Common.{◌≡◌, ◌-◌, ◌++◌, length, take, map, holdings_of, slot_holding}
use Rattle.rh_scene.proofs.kept.push_slots.Given as goal

-- the slots so far are listed
abbrev pub invariant-tasks : goal.invariant-tasks
invariant-tasks g l =
    holdings_of l.list.items
    ≡ holdings_of l.initial.list.items ++ map slot_holding (take l.i (g.S.Sight.desk l.sight).tasks)

abbrev pub decreases-tasks : goal.decreases-tasks
decreases-tasks g l = length (g.S.Sight.desk l.sight).tasks - l.i
