-- A worked run of a sender that is told that its file was loaded, and one with a definition changed, on which delivered_law
-- fails.
use Rattle.rh_laws.proofs.Common.{◌≡◌, false, List, [], ◌∷◌, ◌++◌, Option, Some, None, map, refl, codes, Ok, hex_on_literals, String, User, TakeAction}
use Rattle.rh_laws.proofs.Common.{Incoming, Outgoing, ◌>>=◌, or_else, load_ack_letter, Desk, Task, send_letter, task_at, with_taking, Handled, ignored}
use Rattle.rh_laws.proofs.Common.{after, step, held, fresh, script, Rules, landed, run_of}
use Rattle.rh_defs.specs.declared.message.Action.TheVariants as action
use Rattle.rh_defs.specs.declared.command.Command.TheVariants as command
use Rattle.rh_defs.specs.declared.reply.Outcome.TheVariants as outcome
use Rattle.rh_defs.specs.declared.reply.Reply.TheVariants as reply
use Rattle.rh_defs.specs.declared.transfer.Incoming.TheVariants as incoming
use Rattle.rh_defs.specs.declared.transfer.Outgoing.TheVariants as outgoing
use Rattle.rh_defs.specs.declared.transfer_action.TakeAction.TheVariants as take_action
use Rattle.rh_defs.specs.Receiver as receiver
use Rattle.rh_defs.specs.Inner.Computing.{computing_script}
use Rattle.rh_safety.specs.Counts.{is_done}
use Rattle.rh_safety.specs.Offered.{offered}
use Rattle.rh_safety.proofs.WrongBodies.{step_by}

-- three bytes go by way of the scrap file; the next poll of a tells it that they were loaded
abbrev loaded_once : List String
loaded_once = "task a 100 file" ∷ "task b 100" ∷ "alloc a 0 3" ∷ "put a 0 0 070809" ∷ "save a 0 b doc" ∷ "poll b" ∷ "poll a"
    ∷ "poll b" ∷ "poll a" ∷ "poll b" ∷ "poll a" ∷ "poll b" ∷ []

abbrev sending_of : Option Task → List Outgoing
sending_of None = []
sending_of (Some t) = t.sending

abbrev taking_of : Option Task → List Incoming
taking_of None = []
taking_of (Some t) = t.taking

-- a's record before that poll
open_before : sending_of (task_at 1 (after fresh (script loaded_once))) ≡
    outgoing.Open (record { id = 1; recipient = 2; anchor = 0; count = 0; last = 4 }) ∷ []
unfolding computing_script hex_on_literals
open_before = refl

-- what that poll answers
told : (step (after fresh (script loaded_once)) (command.Poll (codes "a"))).1 ≡ reply.Event User action.DataLoadAck 5 4 outcome.Done
unfolding computing_script hex_on_literals
told = refl

-- commands behind it: a's block and a itself go, and a new task takes its name
abbrev later : List String
later = "poll a" ∷ "free a 0" ∷ "kill a" ∷ "task a 4" ∷ "poll b" ∷ []

-- what b has then
has_done : taking_of (task_at 2 (after fresh (script (loaded_once ++ later)))) ≡ incoming.Done 1 0 3 ∷ []
unfolding computing_script hex_on_literals
has_done = refl

-- what it holds, and what was offered
holds_all : held fresh (script (loaded_once ++ later)) 1 2 ≡ Some (7 ∷ 8 ∷ 9 ∷ [])
unfolding computing_script hex_on_literals
holds_all = refl

was_offered : offered fresh (script (loaded_once ++ later)) 1 ≡ Some (7 ∷ 8 ∷ 9 ∷ [])
unfolding computing_script hex_on_literals
was_offered = refl

-- ---- a receiver that tells its sender, and loads nothing

abbrev tells_alone : Desk → Task → Option TakeAction → Handled
tells_alone d t (Some (take_action.LoadFile a)) =
    or_else (send_letter (load_ack_letter t.handle a 0) d >>= λ sent. Ok (
      with_taking t.handle (receiver.abandoned a.transfer 0) sent,
      outcome.Failed,
    ))
    (λ refusal. ignored d)
tells_alone d t _ = ignored d

abbrev told_alone : Rules
told_alone = record landed {
  takes_file = λ d t m. tells_alone d t (receiver.on_load m.message.from m.message.my_ref m.message.your_ref t.taking);
}

-- a is told the same
wrong_told : (step_by told_alone (run_of told_alone loaded_once).desk (command.Poll (codes "a"))).1 ≡
    reply.Event User action.DataLoadAck 5 4 outcome.Done
unfolding computing_script hex_on_literals
wrong_told = refl

-- b's record doesn't say Done
wrong_record : map is_done (taking_of (task_at 2 (run_of told_alone (loaded_once ++ "poll a" ∷ [])).desk)) ≡ false ∷ []
unfolding computing_script hex_on_literals
wrong_record = refl

-- nor does it count what was offered
wrong_taking : taking_of (task_at 2 (run_of told_alone (loaded_once ++ "poll a" ∷ [])).desk) ≡ incoming.Failed 1 0 0 ∷ []
unfolding computing_script hex_on_literals
wrong_taking = refl
