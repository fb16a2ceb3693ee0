use Rattle.rh_scene.proofs.Common.{◌≡◌, ◌-◌, length, drop, find}
use Rattle.rh_defs.specs.Desk.{has_name}
use Rattle.rh_scene.proofs.tasks.task_named.Given as goal

-- none so far has the name
abbrev pub invariant-tasks : goal.invariant-tasks
invariant-tasks g l =
    find (has_name l.name) (drop l.i (g.S.Sight.desk l.sight).tasks) ≡ find (has_name l.name) (g.S.Sight.desk l.sight).tasks

abbrev pub decreases-tasks : goal.decreases-tasks
decreases-tasks g l = length (g.S.Sight.desk l.sight).tasks - l.i
