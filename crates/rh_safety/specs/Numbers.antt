-- The numbers that replies answer: handles of tasks, refs of messages that were sent, and numbers of areas that were
-- made. Read *replies* (Runs of rh_defs) first. d is a desk.
use Rattle.std.specs.Prelude.{ℕ, List, [], ◌∷◌}
use Rattle.std.specs.List.{flat_map}
use Rattle.rh_defs.specs.declared.command.Command.{Command}
use Rattle.rh_defs.specs.declared.reply.Outcome.{Outcome}
use Rattle.rh_defs.specs.declared.reply.Outcome.TheVariants as outcome
use Rattle.rh_defs.specs.declared.reply.Reply.{Reply}
use Rattle.rh_defs.specs.declared.reply.Reply.TheVariants as reply
use Rattle.rh_defs.specs.Desk.{Desk, next_ref}
use Rattle.rh_defs.specs.Laws.{Rise}
use Rattle.rh_defs.specs.Runs.{after, replies}

-- the handle that a new task got
abbrev pub handles_in : Reply → List ℕ
handles_in (reply.Started handle) = handle ∷ []
handles_in said = []

-- the ref of the message that was sent as another one was handled
abbrev pub refs_of_outcome : Outcome → List ℕ
refs_of_outcome (outcome.Fetch ref) = ref ∷ []
refs_of_outcome (outcome.Sent count ref) = ref ∷ []
refs_of_outcome (outcome.TookFull count ref) = ref ∷ []
refs_of_outcome (outcome.Asked ref) = ref ∷ []
refs_of_outcome (outcome.Saved count ref) = ref ∷ []
refs_of_outcome other = []

-- the ref of the message that a command sent; those of the message that a poll took were given before
abbrev pub refs_in : Reply → List ℕ
refs_in (reply.Sent ref) = ref ∷ []
refs_in (reply.Event code action mine yours outcome) = refs_of_outcome outcome
refs_in said = []

-- the number that a new area got
abbrev pub areas_in : Reply → List ℕ
areas_in (reply.Made number) = number ∷ []
areas_in said = []

-- numbers that go up strictly, from the least one on, below the next one
abbrev pub GoUp : ℕ → ℕ → List ℕ → Type 0
GoUp least next numbers = Rise (λ n. n) least next numbers

-- The numbers that the replies to some commands answer go up strictly, each kind from the desk's next one on, and stay
-- below the next one of the desk after them.
pub record AnswersGoUp (d : Desk) (commands : List Command) : Type 0 where
  pub handles : GoUp d.next_handle (after d commands).next_handle (flat_map handles_in (replies d commands))
  pub refs : GoUp (next_ref d) (next_ref (after d commands)) (flat_map refs_in (replies d commands))
  pub areas : GoUp d.next_area (after d commands).next_area (flat_map areas_in (replies d commands))

-- of every desk and every list of commands
abbrev pub NumbersGoUp : Type 0
NumbersGoUp = (d : Desk) (commands : List Command) → AnswersGoUp d commands
