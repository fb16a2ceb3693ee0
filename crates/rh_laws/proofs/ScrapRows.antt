-- Worked runs by way of the scrap file, and one with a definition changed, on which the alternation fails.
use Rattle.rh_laws.proofs.Common.{◌≡◌, refl, ℕ, List, [], ◌∷◌, length, map, codes, true, Option, Some, None, Ok, String, Outcome, Reply, Command}
use Rattle.rh_laws.proofs.Common.{Outgoing, Incoming, TakeAction, ◌>>=◌, or_else, Desk, Task, Scrap, task_at, with_taking, Handled, ignored, appended}
use Rattle.rh_laws.proofs.Common.{after, replies, Rules, landed, run_of}
use Rattle.rh_defs.specs.declared.reply.Outcome.TheVariants as outcome
use Rattle.rh_defs.specs.declared.reply.Reply.TheVariants as reply
use Rattle.rh_defs.specs.declared.command.Command.TheVariants as command
use Rattle.rh_defs.specs.declared.command.Manner.TheVariants as manner
use Rattle.rh_defs.specs.declared.transfer.Outgoing.TheVariants as outgoing
use Rattle.rh_defs.specs.declared.transfer.Incoming.TheVariants as incoming
use Rattle.rh_defs.specs.declared.transfer_action.TakeAction.TheVariants as take_action
use Rattle.rh_defs.specs.Receiver as receiver
use Rattle.rh_defs.specs.Runs.{start}
use Rattle.rh_defs.specs.Inner.Computing.{computing_script, computing_runs}
use Rattle.rh_safety.specs.Alternation.{all_granted}
use Rattle.rh_safety.specs.Offered.{bytes_of_block}
use Rattle.rh_laws.specs.ScrapTurns.{eight_polls}

abbrev fresh : Desk
fresh = start 64 []

-- three bytes are saved by a task that answers no fetch
abbrev saved : Desk
saved = after fresh (command.Task (codes "a") 100 manner.File ∷ command.Task (codes "b") 100 manner.Plain
    ∷ command.Alloc (codes "a") 0 3 ∷ command.Put (codes "a") 0 0 (7 ∷ 8 ∷ 9 ∷ [])
    ∷ command.Save (codes "a") 0 (codes "b") (codes "doc") ∷ [])

abbrev polls : List Command
polls = eight_polls (codes "b") (codes "a")

-- what a poll did
abbrev done_by : Reply → Option Outcome
done_by (reply.Event code action my_ref your_ref o) = Some o
done_by _ = None

abbrev sending_of : Option Task → List Outgoing
sending_of None = []
sending_of (Some t) = t.sending

abbrev taking_of : Option Task → List Incoming
taking_of None = []
taking_of (Some t) = t.taking

abbrev block_of : Option Task → ℕ → Option (List ℕ)
block_of None k = None
block_of (Some t) k = bytes_of_block t.slot k

-- the eight polls, one by one
pub eight_outcomes : map done_by (replies saved polls) ≡
    Some (outcome.Fetch 2) ∷ Some outcome.Ignored ∷ None ∷ None ∷ Some (outcome.Asked 3) ∷ Some (outcome.Saved 3 4)
    ∷ Some (outcome.Loaded 3) ∷ Some outcome.Done ∷ []
unfolding computing_runs
eight_outcomes = refl

pub all_are_granted : all_granted saved polls ≡ true
unfolding computing_runs
all_are_granted = refl

-- the records of both, and the receiver's document
abbrev ends_of : Desk → List Outgoing × List Incoming × Option (List ℕ)
ends_of d = (sending_of (task_at 1 d), taking_of (task_at 2 d), block_of (task_at 2 d) 0)

pub both_done : ends_of (after saved polls) ≡
    (outgoing.Done 1 3 ∷ [], incoming.Done 1 0 3 ∷ [], Some (7 ∷ 8 ∷ 9 ∷ []))
unfolding computing_runs
both_done = refl

-- ---- a receiver that loads the file, and does not tell its sender

abbrev loads_untold : Desk → Task → Option TakeAction → Option Scrap → Handled
loads_untold d t (Some (take_action.LoadFile a)) (Some file) =
    or_else (appended d t a.transfer.anchor file.bytes >>= λ longer. Ok (
      with_taking t.handle (receiver.taking_loaded a.transfer (length file.bytes)) (record longer { scrap = None }),
      outcome.Loaded (length file.bytes),
    ))
    (λ refusal. (with_taking t.handle (receiver.abandoned a.transfer 0) d, outcome.Refused refusal))
loads_untold d t _ _ = ignored d

abbrev untold : Rules
untold = record landed {
  takes_file = λ d t m. loads_untold d t (receiver.on_load m.message.from m.message.my_ref m.message.your_ref t.taking)
      d.scrap;
}

-- after the save eight polls in turn, none of which is refused anything
abbrev eight_in_turn : List String
eight_in_turn = "task a 100 file" ∷ "task b 100" ∷ "alloc a 0 3" ∷ "save a 0 b doc" ∷ "poll b" ∷ "poll a" ∷ "poll b"
    ∷ "poll a" ∷ "poll b" ∷ "poll a" ∷ "poll b" ∷ "poll a" ∷ []

right_end : ends_of (run_of landed eight_in_turn).desk ≡
    (outgoing.Done 1 3 ∷ [], incoming.Done 1 0 3 ∷ [], Some (0 ∷ 0 ∷ 0 ∷ []))
unfolding computing_script
right_end = refl

wrong_end : ends_of (run_of untold eight_in_turn).desk ≡ (
  outgoing.Open (record {
    id = 1;
    recipient = 2;
    anchor = 0;
    count = 0;
    last = 4;
  }) ∷ [],
  incoming.Done 1 0 3 ∷ [],
  Some (0 ∷ 0 ∷ 0 ∷ []),
)
unfolding computing_script
wrong_end = refl
