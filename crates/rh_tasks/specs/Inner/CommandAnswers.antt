-- What a command's method gives.
use Rattle.std.specs.Prelude.{◌≡◌, Result, Ok, Err}
use Rattle.std.specs.Result.{MatchResult}
use Rattle.rh_defs.specs.declared.refusal.Refusal.{Refusal}
use Rattle.rh_defs.specs.declared.reply.Reply.{Reply}
use Rattle.rh_defs.specs.declared.reply.Reply.TheVariants as reply
use Rattle.rh_defs.specs.Chain.{Granted}
use Rattle.rh_defs.specs.declared.command.Command.{Command}
use Rattle.rh_defs.specs.declared.question.Numbers.{Numbers}
use Rattle.rh_defs.specs.Desk.{Desk}
use Rattle.rh_defs.specs.Commands.{Answer}
use Rattle.rh_defs.specs.Order.{IsReordered}
use Rattle.rh_tasks.specs.Shown.{Shown}
use Rattle.rh_tasks.specs.Answer.{StaysIfAsked, StaysIfRefused, StepsTo}

-- the desk is the one that is granted, but for the order of messages to different tasks, or it was refused and nothing changed
abbrev pub GivesAlike : Granted Answer → Shown → Shown → Result Reply Refusal → Type 0
GivesAlike granted old new result =
    MatchResult result (λ said. (d : Desk) × ((granted ≡ Ok (d, said)) × IsReordered d new.desk)) (λ refusal. (granted ≡ Err refusal) × (new ≡ old))

-- a command's step, and what it leaves as it was
pub record Does (c : Command) (old new : Shown) (said : Reply) : Type 0 where
  pub steps : StepsTo c old.desk new.desk said
  pub refused : StaysIfRefused old new said
  pub asked : StaysIfAsked c old new

-- the result of a question by its numbers
abbrev pub answered : Granted Numbers → Granted Reply
answered (Ok numbers) = Ok (reply.Answered numbers)
answered (Err refusal) = Err refusal

-- the reply that a call's result is
abbrev pub reply_of : Result Reply Refusal → Reply
reply_of (Ok said) = said
reply_of (Err refusal) = reply.Refused refusal
