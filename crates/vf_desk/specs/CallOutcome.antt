-- What a call with a command comes to, and what it tells.
use Rattle.std.specs.Prelude.{◌≡◌, ◌≢◌, ℕ, Bool, if◌then◌else◌, List, [], ◌∷◌, Option, Some, None}
use Rattle.rh_defs.specs.declared.command.Command.{Command}
use Rattle.rh_defs.specs.declared.command.Command.TheVariants as command
use Rattle.rh_defs.specs.declared.question.Question.{Question}
use Rattle.rh_defs.specs.declared.question.Numbers.{Numbers}
use Rattle.rh_defs.specs.declared.question.Numbers.TheVariants as numbers
use Rattle.rh_defs.specs.declared.reply.Reply.TheVariants as reply
use Rattle.rh_defs.specs.Questions.{each_of}
use Rattle.rh_defs.specs.Range.{in_range}
use Rattle.rh_defs.specs.Desk.{Desk}
use Rattle.rh_defs.specs.Commands.{step}
use Rattle.vf_desk.specs.declared.call_outcome.CallOutcome.{CallOutcome}
use Rattle.vf_desk.specs.declared.call_outcome.CallOutcome.TheVariants.{Closed, BadArgument, Said}
use Rattle.vf_desk.specs.declared.desk.VfDesk.{VfDesk}
use Rattle.vf_desk.specs.declared.items.VfHeapSums.{VfHeapSums}
use Rattle.vf_desk.specs.SeenDesk.{IsSeenDesk, KeepsRest}
use Rattle.vf_desk.specs.DeskStatus.{bad_argument, closed_status, refusal_number}

-- a command whose numbers, names and bytes are of their forms, or none
abbrev pub in_form : Command → Option Command
in_form c = if in_range c then Some c else None

-- what a call with this command comes to, where the desk is open and seen as this one, or closed
abbrev pub called : Option Desk → Option Command → CallOutcome
called None command = Closed
called (Some d) None = BadArgument
called (Some d) (Some c) = Said (step d c).1

-- a desk after it
abbrev pub desk_with : Option Command → Desk → Desk
desk_with None d = d
desk_with (Some c) d = (step d c).0

-- the desk after the command where it is open; a closed one stays closed
abbrev pub desk_by : Option Desk → Option Command → Option Desk
desk_by None command = None
desk_by (Some d) command = Some (desk_with command d)

-- its status
abbrev pub status_of : CallOutcome → ℕ
status_of Closed = closed_status
status_of BadArgument = bad_argument
status_of (Said (reply.Refused refusal)) = refusal_number refusal
status_of (Said _) = 0

-- A call does a command: its status is that of the step on each desk that the handle may be seen as, and so is the desk
-- afterwards. The last reply stays, and with any status but 0 all that the handle has: the desk, its bytes and areas.
pub record DoesCalled (command : Option Command) (old new : VfDesk) (status : ℕ) : Type 0 where
  pub status_is : (s : Option Desk) → IsSeenDesk old s → status ≡ status_of (called s command)
  pub desk : (s : Option Desk) → IsSeenDesk old s → IsSeenDesk new (desk_by s command)
  pub rest : KeepsRest old.handle.open_desk new.handle.open_desk
  pub refused : status ≢ 0 → new.handle.open_desk ≡ old.handle.open_desk

-- a question, or no command
abbrev pub IsAsked : Option Command → Type 0
IsAsked None = Unit {0}
IsAsked (Some (command.Ask q)) = Unit {0}
IsAsked (Some _) = ⊥

-- A call asks a question: its status is that of the answer on each desk that the handle may be seen as, and all that
-- the handle has stays.
pub record Asks (q : Question) (old new : VfDesk) (status : ℕ) : Type 0 where
  pub status_is : (s : Option Desk) → IsSeenDesk old s → status ≡ status_of (called s (in_form (command.Ask q)))
  pub same : new.handle.open_desk ≡ old.handle.open_desk

-- ---- words and numbers of a reply, or what was there before

-- the number that is alone in a list
abbrev pub only_of : List ℕ → ℕ → ℕ
only_of (n ∷ []) old = n
only_of _ old = old

-- the number of an answer's first line that has one alone
abbrev pub only_or : Numbers → ℕ → ℕ
only_or numbers old = only_of (each_of numbers) old

-- the one number of a reply
abbrev pub number_or : CallOutcome → ℕ → ℕ
number_or (Said (reply.Started handle)) old = handle
number_or (Said (reply.Sent ref)) old = ref
number_or (Said (reply.Answering ref)) old = ref
number_or (Said (reply.Block address)) old = address
number_or (Said (reply.Moved bytes)) old = bytes
number_or (Said (reply.Made number)) old = number
number_or (Said (reply.Answered numbers)) old = only_or numbers old
number_or _ old = old

-- whether budging was on
abbrev pub was_or : CallOutcome → Bool → Bool
was_or (Said (reply.WasBudging on)) old = on
was_or _ old = old

-- the sums over a C heap
abbrev pub sums_or : CallOutcome → VfHeapSums → VfHeapSums
sums_or (Said (reply.Answered (numbers.HeapSums length largest free))) old = record { length = length; largest = largest; free = free }
sums_or _ old = old

-- a number that is told where the call is done
abbrev pub done_or : CallOutcome → ℕ → ℕ → ℕ
done_or Closed n old = old
done_or BadArgument n old = old
done_or (Said (reply.Refused refusal)) n old = old
done_or (Said _) n old = n
