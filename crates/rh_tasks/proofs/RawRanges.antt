-- What the form of a command of a task with code of its own says, and what its calls give.
use Rattle.rh_tasks.proofs.Common.{◌≡◌, ℕ, Bool, true, refl, arith, List, [], Option, None, Some, Ok, Err, Result, Refusal, Reply, Granted, Answer, Shown}
use Rattle.rh_tasks.proofs.Common.{nat_tests}
use Rattle.rh_tasks.proofs.Common.{in_range, anchor_count, ◌<◌, reordered-refl}
use Rattle.std.specs.Prelude.{unwrap_or}
use Rattle.rh_defs.specs.declared.command.Command.TheVariants as command
use Rattle.rh_defs.specs.declared.raw_command.RawCommand.TheVariants as raw
use Rattle.rh_defs.specs.OtherBodies.{is_whole}
use Rattle.rh_tasks.specs.Answer.{Gives}
use Rattle.rh_tasks.specs.Inner.CommandAnswers.{GivesAlike}

pub send-whole : (name : List ℕ) (recorded : Bool) (h ref a : ℕ) (bytes : Option (List ℕ))
    → in_range (command.Raw (raw.Send name recorded h ref a bytes)) ≡ true → is_whole (unwrap_or bytes []) ≡ true
unfolding in_range
send-whole name recorded h ref a None e = refl
send-whole name recorded h ref a (Some bytes) e = grind (arith, nat_tests)

pub spool-anchor : (name : List ℕ) (k h ref : ℕ) → in_range (command.Raw (raw.Spool name k h ref)) ≡ true → k < anchor_count
unfolding in_range
spool-anchor name k h ref e = grind (arith, nat_tests)

pub scrap-anchor : (name : List ℕ) (k : ℕ) → in_range (command.Raw (raw.Scrap name k)) ≡ true → k < anchor_count
unfolding in_range
scrap-anchor name k e = grind (arith, nat_tests)

-- what is given is given but for the order of messages to different tasks
pub alike-gives : (granted : Granted Answer) (old new : Shown) (result : Result Reply Refusal) → Gives granted old new result
    → GivesAlike granted old new result
alike-gives granted old new (Ok said) h = (new.desk, (h, reordered-refl new.desk))
alike-gives granted old new (Err refusal) h = h
