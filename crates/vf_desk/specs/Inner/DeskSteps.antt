-- What a command comes to on a world, of each desk that it may be seen as.
use Rattle.std.specs.Prelude.{◌≡◌, ◌≢◌, Option, Some}
use Rattle.rh_defs.specs.declared.command.Command.{Command}
use Rattle.rh_defs.specs.Desk.{Desk}
use Rattle.rh_defs.specs.Order.{IsReordered}
use Rattle.rh_tasks.specs.Shown.{Shown}
use Rattle.vf_desk.specs.declared.call_outcome.CallOutcome.{CallOutcome}
use Rattle.vf_desk.specs.CallOutcome.{IsAsked, called, desk_with, status_of}

-- What a command, or none, comes to on a world, of each desk that it may be seen as. With any status but 0 all of the
-- world stays, and where it is a question.
pub record Steps (command : Option Command) (old new : Shown) (said : CallOutcome) : Type 0 where
  pub said_is : (d : Desk) → IsReordered d old.desk → said ≡ called (Some d) command
  pub desk : (d : Desk) → IsReordered d old.desk → IsReordered (desk_with command d) new.desk
  pub refused : status_of said ≢ 0 → new ≡ old
  pub asked : IsAsked command → new ≡ old
