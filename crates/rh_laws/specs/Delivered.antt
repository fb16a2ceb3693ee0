-- What a sender may rely on that was told that its file was loaded. Read Counts of rh_safety first.
-- d is a desk, x the sender's open record, id the transfer, h the receiver's handle, t its task, w a record that comes
-- in.
use Rattle.std.specs.Prelude.{◌≡◌, ℕ, true, false, List, ◌∷◌, ◌++◌, length, find, Some}
use Rattle.std.specs.List.{Contains}
use Rattle.std.specs.Option.{option_map}
use Rattle.rh_defs.specs.declared.message.Action.TheVariants as action
use Rattle.rh_defs.specs.declared.message.EventCode.TheVariants.{User}
use Rattle.rh_defs.specs.declared.command.Command.{Command}
use Rattle.rh_defs.specs.declared.command.Command.TheVariants as command
use Rattle.rh_defs.specs.declared.reply.Outcome.TheVariants as outcome
use Rattle.rh_defs.specs.declared.reply.Reply.TheVariants as reply
use Rattle.rh_defs.specs.declared.transfer.Incoming.{Incoming}
use Rattle.rh_defs.specs.declared.transfer.Outgoing.TheVariants as outgoing
use Rattle.rh_defs.specs.declared.transfer.Sending.{Sending}
use Rattle.rh_defs.specs.Files.{FileList}
use Rattle.rh_defs.specs.Laws.{IsStart}
use Rattle.rh_defs.specs.Range.{all_in_range}
use Rattle.rh_defs.specs.Records.{in_id}
use Rattle.rh_defs.specs.RawTasks.{is_raw}
use Rattle.rh_defs.specs.Desk.{Desk, Task, has_name, task_at}
use Rattle.rh_defs.specs.Commands.{step}
use Rattle.rh_defs.specs.Runs.{after, start_with}
use Rattle.rh_safety.specs.Counts.{counted_in, is_done}
use Rattle.rh_safety.specs.Held.{held}
use Rattle.rh_safety.specs.Offered.{offered}
use Rattle.rh_safety.specs.RawIds.{has_raw}

-- a poll of the task with the name answers that its open record is done, by a DataLoadAck that answers its last message
pub record IsTold (d : Desk) (name : List ℕ) (x : Sending) : Type 0 where
  pub sender : Task
  pub is : find (has_name name) d.tasks ≡ Some sender
  pub open_ : Contains sender.sending (outgoing.Open x)
  pub ref : ℕ
  pub answer : (step d (command.Poll name)).1 ≡ reply.Event User action.DataLoadAck ref x.last outcome.Done

-- After the commands, each record that the task has of the transfer says Done and counts all that was offered; what the
-- task holds of it, where it holds something, is all that was offered.
pub record HasAll (d : Desk) (commands : List Command) (id h : ℕ) : Type 0 where
  pub done :
      (t : Task) (w : Incoming) → task_at h (after d commands) ≡ Some t → Contains t.taking w → in_id w ≡ id →
      is_done w ≡ true
  pub counts :
      (t : Task) (w : Incoming) → task_at h (after d commands) ≡ Some t → Contains t.taking w → in_id w ≡ id →
      option_map length (offered d commands id) ≡ Some (counted_in w)
  pub whole : (got : List ℕ) → held d commands id h ≡ Some got → offered d commands id ≡ Some got

-- from the poll on that tells a sender so, whatever commands come after it, its recipient has all
abbrev pub DeliversAll : Desk → List Command → List Command → List ℕ → Sending → Type 0
DeliversAll d commands later name x =
    all_in_range (commands ++ command.Poll name ∷ later) ≡ true → IsTold (after d commands) name x →
    HasAll d (commands ++ command.Poll name ∷ later) x.id x.recipient

-- so it is where the desk plays the recipient
abbrev pub Delivers : Desk → List Command → List Command → Type 0
Delivers d commands later =
    (name : List ℕ) (x : Sending) (recipient : Task) → task_at x.recipient (after d commands) ≡ Some recipient →
    is_raw recipient.manner ≡ false → DeliversAll d commands later name x

-- of any commands before the poll and behind it, from each start
abbrev pub AlwaysDelivers : Type 0
AlwaysDelivers =
    (pool handle ref : ℕ) (files : FileList) (commands later : List Command) → IsStart pool handle ref →
    Delivers (start_with pool files handle ref) commands later

-- where no command before the poll starts a task with code of its own, so it is of any recipient
abbrev pub AllDeliver : Type 0
AllDeliver =
    (pool handle ref : ℕ) (files : FileList) (commands later : List Command) → IsStart pool handle ref →
    has_raw commands ≡ false → (name : List ℕ) (x : Sending) →
    DeliversAll (start_with pool files handle ref) commands later name x
