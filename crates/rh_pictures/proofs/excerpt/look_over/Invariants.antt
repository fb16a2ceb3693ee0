use Rattle.std.proofs.Common.{◌-◌, length, take}
use Rattle.std.specs.List.{AllByRecursion}
use Rattle.rh_pictures.specs.Inner.SmallTasks.{IsSmallTask}
use Rattle.rh_pictures.proofs.excerpt.look_over.Given as goal

-- the tasks so far are small
abbrev pub invariant-tasks : goal.invariant-tasks
invariant-tasks g l = AllByRecursion IsSmallTask (take l.i (g.S.Sight.desk l.sight).tasks)

abbrev pub decreases-tasks : goal.decreases-tasks
decreases-tasks g l = length (g.S.Sight.desk l.sight).tasks - l.i
