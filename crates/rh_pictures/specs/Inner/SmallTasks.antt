-- Tasks that are small enough to be counted in words of the machine.
use Rattle.std.specs.Prelude.{◌≤◌, List, length}
use Rattle.std.specs.List.{AllByRecursion}
use Rattle.rh_defs.specs.declared.sizes.TheConstants.{LONGEST_NAME}
use Rattle.rh_defs.specs.Desk.{Task, most_tasks}
use Rattle.rh_defs.specs.Records.{most_records}

-- a task with a short name and few records
pub record IsSmallTask (t : Task) : Type 0 where
  pub name : length t.name ≤ LONGEST_NAME
  pub sending : length t.sending ≤ most_records
  pub taking : length t.taking ≤ most_records

-- few tasks, and each is small
pub record AreSmall (tasks : List Task) : Type 0 where
  pub few : length tasks ≤ most_tasks
  pub each : AllByRecursion IsSmallTask tasks
