use Rattle.rh_scene.proofs.Common.{◌≡◌, ◌-◌, length, drop, ◌==◌, find, Task}
use Rattle.rh_scene.proofs.tasks.task_with.Given as goal

-- none so far has the handle
abbrev pub invariant-tasks : goal.invariant-tasks
invariant-tasks g l =
    find (λ (t : Task). t.handle == l.handle) (drop l.i (g.S.Sight.desk l.sight).tasks)
    ≡ find (λ (t : Task). t.handle == l.handle) (g.S.Sight.desk l.sight).tasks

abbrev pub decreases-tasks : goal.decreases-tasks
decreases-tasks g l = length (g.S.Sight.desk l.sight).tasks - l.i
