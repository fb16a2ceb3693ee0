-- What polls took of each transfer: the first bytes of a buffer, or a scrap file. Read Transfer of rh_defs and RawIds first.
-- d is a desk, t the task that polls, m the message that it takes, o what it did with it, r its reply, b the message's body, g
-- what was given under each id so far, n a number of bytes. *given_next* follows one command by its reply, *given_from*
-- all commands.
use Rattle.std.specs.Prelude.{◌≡◌, ℕ, Bool, true, false, if◌then◌else◌, List, [], ◌∷◌, ◌++◌, length, take, find, unwrap_or, Option, Some, None}
use Rattle.std.specs.List.{Contains}
use Rattle.rh_defs.specs.declared.command.Command.{Command}
use Rattle.rh_defs.specs.declared.command.Command.TheVariants as command
use Rattle.rh_defs.specs.declared.message.Body.{Body}
use Rattle.rh_defs.specs.declared.message.Body.TheVariants.{DataLoad, RamTransmit}
use Rattle.rh_defs.specs.declared.message.EventCode.{EventCode}
use Rattle.rh_defs.specs.declared.message.EventCode.TheVariants.{Acknowledge}
use Rattle.rh_defs.specs.declared.reply.Outcome.{Outcome}
use Rattle.rh_defs.specs.declared.reply.Outcome.TheVariants as outcome
use Rattle.rh_defs.specs.declared.reply.Reply.{Reply}
use Rattle.rh_defs.specs.declared.reply.Reply.TheVariants as reply
use Rattle.rh_defs.specs.declared.transfer.Asked.{Asked}
use Rattle.rh_defs.specs.declared.transfer.Incoming.{Incoming}
use Rattle.rh_defs.specs.declared.transfer.Incoming.TheVariants as incoming
use Rattle.rh_defs.specs.AnyMessage.{read_body}
use Rattle.rh_defs.specs.Messages.{Parcel}
use Rattle.rh_defs.specs.Post.{post_poll}
use Rattle.rh_defs.specs.Receiver.{is_answer, is_load}
use Rattle.rh_defs.specs.Records.{active_of, asking_of, in_id}
use Rattle.rh_defs.specs.Desk.{Desk, Scrap, Task, has_name, kept_scrap, task_at}
use Rattle.rh_defs.specs.Commands.{step}
use Rattle.rh_defs.specs.Runs.{after}
use Rattle.rh_safety.specs.Buffers.{bytes_of_buffer}
use Rattle.rh_safety.specs.Counts.{counted_in}
use Rattle.rh_safety.specs.Held.{held}
use Rattle.rh_safety.specs.Offered.{at_place}
use Rattle.rh_safety.specs.RawIds.{is_raw_id}

-- by id, the bytes that were taken
abbrev pub Given : Type 0
Given = ℕ → List ℕ

-- whether a message came back
abbrev pub is_bounce : EventCode → Bool
is_bounce Acknowledge = true
is_bounce _ = false

-- whether bytes of a buffer were taken, and whether a scrap file was
abbrev pub takes_bytes : Outcome → Bool
takes_bytes (outcome.TookLast n) = true
takes_bytes (outcome.TookFull n ref) = true
takes_bytes (outcome.TookFailed n refusal) = true
takes_bytes _ = false

abbrev pub takes_file : Outcome → Bool
takes_file (outcome.Loaded n) = true
takes_file (outcome.LoadedFailed n refusal) = true
takes_file _ = false

-- the first n bytes of the buffer of a record that fetches are given
abbrev pub given_bytes : Given → Task → Option Incoming → ℕ → Given
given_bytes g t (Some (incoming.Fetching f)) n = at_place g f.id (g f.id ++ take n (unwrap_or (bytes_of_buffer t.slot f.buffer) []))
given_bytes g t _ n = g

-- the file is given to a record that waits for one
abbrev pub given_file : Given → Option Asked → Option Scrap → Given
given_file g (Some q) (Some file) = at_place g q.id (g q.id ++ file.bytes)
given_file g _ _ = g

-- by a message that came or came back: a transmit gives to the record whose fetch it answers, a DataLoad to the one that asked for it
abbrev pub given_by : Given → Task → Option Scrap → Parcel → Bool → Body → Outcome → Given
given_by g t file m false (RamTransmit buffer n) o =
    if takes_bytes o
    then given_bytes g t (active_of (is_answer t.buffer m.message.from m.message.your_ref buffer n) t.taking) n else g
given_by g t file m false (DataLoad f) o =
    if takes_file o then given_file g (asking_of (is_load m.message.from m.message.your_ref) t.taking) file else g
given_by g t file m back b o = g

-- by a poll's reply, the message that it took, and the scrap file that was still there
abbrev pub given_event : Given → Task → Option Scrap → Option Parcel → Reply → Given
given_event g t file (Some m) (reply.Event code action mine yours o) =
    given_by g t file m (is_bounce m.code) (read_body m.message.body) o
given_event g t file _ _ = g

abbrev pub given_polled : Given → Desk → Option Task → Reply → Given
given_polled g d None r = g
given_polled g d (Some t) r =
    given_event g t (kept_scrap (post_poll t.handle d.post).0 d.scrap) (post_poll t.handle d.post).1 r

-- what was given after one more command, by the command's reply
abbrev pub given_next : Given → Desk → Command → Reply → Given
given_next g d (command.Poll name) r = given_polled g d (find (has_name name) d.tasks) r
given_next g d _ r = g

-- what was given after commands
abbrev pub given_from : Given → Desk → List Command → Given
given_from g d [] = g
given_from g d (c ∷ commands) = given_from (given_next g d c (step d c).1) (step d c).0 commands

-- what polls took of the transfer with the id, in a run of the commands from the desk
abbrev pub given : Desk → List Command → ℕ → List ℕ
given d commands id = given_from (λ i. []) d commands id

-- After the commands, of a transfer that a task with code of its own began: what a task holds of it is what its polls took,
-- and each record of a live task counts just that, whatever came to its document since.
pub record HoldsGiven (d : Desk) (commands : List Command) : Type 0 where
  pub holds :
      (id h : ℕ) (got : List ℕ) → is_raw_id d commands id ≡ true → held d commands id h ≡ Some got → got ≡ given d commands id
  pub counts :
      (h : ℕ) (t : Task) (w : Incoming) → task_at h (after d commands) ≡ Some t → Contains t.taking w →
      is_raw_id d commands (in_id w) ≡ true → counted_in w ≡ length (given d commands (in_id w))
