-- What a command's call gives.
use Rattle.std.specs.Prelude.{◌≡◌, List, [], ◌∷◌, ◌++◌, Result, Ok, Err}
use Rattle.std.specs.Result.{MatchResult}
use Rattle.rh_defs.specs.declared.refusal.Refusal.{Refusal}
use Rattle.rh_defs.specs.declared.reply.Reply.{Reply}
use Rattle.rh_defs.specs.declared.reply.Reply.TheVariants as reply
use Rattle.rh_defs.specs.Chain.{Granted}
use Rattle.rh_defs.specs.declared.command.Command.{Command}
use Rattle.rh_defs.specs.declared.command.Command.TheVariants as command
use Rattle.rh_defs.specs.declared.question.Numbers.{Numbers}
use Rattle.rh_defs.specs.declared.question.Question.{Question}
use Rattle.rh_defs.specs.Desk.{Desk}
use Rattle.rh_defs.specs.Commands.{Answer, step}
use Rattle.rh_defs.specs.Order.{IsReordered}
use Rattle.rh_defs.specs.Questions.{Told}
use Rattle.rh_defs.specs.Runs.{after}
use Rattle.rh_tasks.specs.Shown.{Shown}

-- the call gave what is granted, or was refused and changed nothing
abbrev pub Gives : Granted Answer → Shown → Shown → Result Reply Refusal → Type 0
Gives granted old new result = MatchResult result (λ said. granted ≡ Ok (new.desk, said)) (λ refusal. (granted ≡ Err refusal) × (new ≡ old))

-- Of each desk that differs from the old one in that order alone, the command gives the reply, and again such a desk.
abbrev pub StepsTo : Command → Desk → Desk → Reply → Type 0
StepsTo c old new said = (d : Desk) → IsReordered d old → ((step d c).1 ≡ said) × IsReordered (step d c).0 new

-- A refused command leaves all that is shown as it was: the desk, the areas' bytes and lengths, and the free pages.
abbrev pub StaysIfRefused : Shown → Shown → Reply → Type 0
StaysIfRefused old new said = (refusal : Refusal) → said ≡ reply.Refused refusal → new ≡ old

-- A question leaves all that is shown as it was, whatever it answers.
abbrev pub StaysIfAsked : Command → Shown → Shown → Type 0
StaysIfAsked c old new = (q : Question) → c ≡ command.Ask q → new ≡ old

-- Where the old desk is that after some commands, but for that order, the new one is that after them and this command.
abbrev pub RunsOn : Command → Desk → Desk → Type 0
RunsOn c old new = (d : Desk) (commands : List Command) → IsReordered (after d commands) old → IsReordered (after d (commands ++ c ∷ [])) new

-- the numbers of an answer
abbrev pub first_told : Granted Told → Granted Numbers
first_told (Ok told) = Ok told.0
first_told (Err refusal) = Err refusal
