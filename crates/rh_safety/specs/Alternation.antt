-- Two tasks that are polled in turn bring a transfer to its end. Read Offered and Buffers first.
-- r is the name of the receiver, s that of the sender, hr and hs are their handles, k is the source's anchor, n a
-- number of rounds, id the transfer. A round polls the receiver and then the sender; one more poll of the receiver ends
-- the turns.
use Rattle.std.specs.Prelude.{◌≡◌, ℕ, zero, suc, ◌+◌, ◌/◌, Bool, true, false, not, List, [], ◌∷◌, length, find, Some, None, is_some}
use Rattle.std.specs.List.{Contains, AllByRecursion, list_any, list_all}
use Rattle.rh_defs.specs.Post.{Seat}
use Rattle.rh_defs.specs.declared.message.Action.{Action}
use Rattle.rh_defs.specs.declared.message.Action.TheVariants as action
use Rattle.rh_defs.specs.declared.reply.Outcome.{Outcome}
use Rattle.rh_defs.specs.declared.reply.Outcome.TheVariants as outcome
use Rattle.rh_defs.specs.declared.command.Command.{Command}
use Rattle.rh_defs.specs.declared.command.Command.TheVariants as command
use Rattle.rh_defs.specs.declared.reply.Reply.{Reply}
use Rattle.rh_defs.specs.declared.reply.Reply.TheVariants as reply
use Rattle.rh_defs.specs.declared.transfer.Outgoing.TheVariants as outgoing
use Rattle.rh_defs.specs.declared.transfer.Incoming.TheVariants as incoming
use Rattle.rh_defs.specs.Range.{in_range}
use Rattle.rh_defs.specs.Records.{is_open, is_going}
use Rattle.rh_defs.specs.Places.{free_anchor}
use Rattle.rh_defs.specs.IncomingEvents.{is_deaf}
use Rattle.rh_defs.specs.Transfer.{answers_none}
use Rattle.rh_defs.specs.RawTasks.{is_raw}
use Rattle.rh_defs.specs.Desk.{Desk, Task, has_name, task_at}
use Rattle.rh_defs.specs.Commands.{step}
use Rattle.rh_defs.specs.Runs.{after, replies}
use Rattle.rh_safety.specs.Offered.{bytes_of_block}
use Rattle.rh_safety.specs.Buffers.{outcome_refusal}

-- ---- the polls

-- the polls of receiver, sender, receiver and so on, 2 * n + 1 in all
abbrev pub turns : List ℕ → List ℕ → ℕ → List Command
turns r s zero = command.Poll r ∷ []
turns r s (suc n) = command.Poll r ∷ command.Poll s ∷ turns r s n

-- the polls of receiver and sender in turn, 2 * n in all: the turns but for the last one
abbrev pub turns_before : List ℕ → List ℕ → ℕ → List Command
turns_before r s zero = []
turns_before r s (suc n) = command.Poll r ∷ command.Poll s ∷ turns_before r s n

-- whether a poll was refused a claim, an allocation, an extension or a message; a DataSave is ignored where it was
abbrev pub is_refusal : Action → Outcome → Bool
is_refusal action.DataSave outcome.Ignored = true
is_refusal a o = is_some (outcome_refusal o)

abbrev pub is_refused_poll : Reply → Bool
is_refused_poll (reply.Event code a my_ref your_ref o) = is_refusal a o
is_refused_poll _ = false

-- no poll of the commands is refused anything
abbrev pub all_granted : Desk → List Command → Bool
all_granted d commands = list_all (λ r. not (is_refused_poll r)) (replies d commands)

-- ---- before, and at the end

-- Nothing is queued or held. The sender answers fetches, has the source at the anchor, and none of its transfers is
-- open; the receiver isn't deaf, has a free anchor, and no transfer comes in to it. The two may be one task.
pub record CanAlternate (d : Desk) (s r : List ℕ) (k : ℕ) (sender receiver : Task) (source : List ℕ) : Type 0 where
  pub queue : d.post.queued ≡ []
  pub held : AllByRecursion (λ (seat : Seat). seat.holds ≡ None) d.post.seats
  pub sender_is : find (has_name s) d.tasks ≡ Some sender
  pub receiver_is : find (has_name r) d.tasks ≡ Some receiver
  pub closed : list_any is_open sender.sending ≡ false
  pub answers : answers_none sender.manner ≡ false
  pub block : bytes_of_block sender.slot k ≡ Some source
  pub idle : list_any is_going receiver.taking ≡ false
  pub hears : is_deaf receiver.manner ≡ false
  pub anchor : is_some (free_anchor receiver.slot) ≡ true

-- the sender's record is Done, and counts the source
pub record SenderDone (d : Desk) (s id : ℕ) (source : List ℕ) : Type 0 where
  pub task : Task
  pub is : task_at s d ≡ Some task
  pub sends : Contains task.sending (outgoing.Done id (length source))

-- the receiver's record is Done, and its document is the source
pub record ReceiverDone (d : Desk) (r id : ℕ) (source : List ℕ) : Type 0 where
  pub task : Task
  pub is : task_at r d ≡ Some task
  pub anchor : ℕ
  pub takes : Contains task.taking (incoming.Done id anchor (length source))
  pub document : bytes_of_block task.slot anchor ≡ Some source

-- both records are Done after the turns, the sender's one poll before the last
pub record EndsDone (d : Desk) (s r : List ℕ) (n hs hr id : ℕ) (source : List ℕ) : Type 0 where
  pub before : SenderDone (after d (turns_before r s n)) hs id source
  pub sends : SenderDone (after d (turns r s n)) hs id source
  pub takes : ReceiverDone (after d (turns r s n)) hr id source

-- a save of n bytes to a buffer of L is accepted, and then 2 * (n / L) + 3 polls are refused nothing
abbrev pub EndsInTurn : Desk → List ℕ → List ℕ → ℕ → List ℕ → Task → Task → List ℕ → ℕ → Type 0
EndsInTurn d s r k leaf sender receiver source id =
    in_range (command.Save s k r leaf) ≡ true → CanAlternate d s r k sender receiver source →
    (step d (command.Save s k r leaf)).1 ≡ reply.Sent id →
    let saved : Desk = (step d (command.Save s k r leaf)).0 in
    let rounds : ℕ = length source / receiver.buffer + 1 in
    all_granted saved (turns r s rounds) ≡ true →
    EndsDone saved s r rounds sender.handle receiver.handle id source

-- so it is where the desk plays the receiver
abbrev pub Alternates : Desk → Type 0
Alternates d =
    (s r : List ℕ) (k : ℕ) (leaf : List ℕ) (sender receiver : Task) (source : List ℕ) (id : ℕ) →
    is_raw receiver.manner ≡ false → EndsInTurn d s r k leaf sender receiver source id

-- so it is of any two tasks
abbrev pub AllAlternate : Desk → Type 0
AllAlternate d =
    (s r : List ℕ) (k : ℕ) (leaf : List ℕ) (sender receiver : Task) (source : List ℕ) (id : ℕ) →
    EndsInTurn d s r k leaf sender receiver source id
