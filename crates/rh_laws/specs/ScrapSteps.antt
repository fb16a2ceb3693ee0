-- How the scrap file comes and goes: no command changes its bytes. Read RawCommands and Transfer of rh_defs first.
-- d is a desk, c a command, a the desk after it and its reply, t the task that polls, m the message that it takes, x an open
-- transfer that goes out, q one that waits for a file, k an anchor, n a number of bytes.
use Rattle.std.specs.Prelude.{◌≡◌, ℕ, Bool, true, false, List, length, find, Option, Some, None}
use Rattle.std.specs.List.{Contains}
use Rattle.rh_defs.specs.declared.command.Command.{Command}
use Rattle.rh_defs.specs.declared.command.Command.TheVariants as command
use Rattle.rh_defs.specs.declared.raw_command.RawCommand.TheVariants as raw
use Rattle.rh_defs.specs.declared.reply.Outcome.{Outcome}
use Rattle.rh_defs.specs.declared.reply.Outcome.TheVariants as outcome
use Rattle.rh_defs.specs.declared.reply.Reply.TheVariants as reply
use Rattle.rh_defs.specs.declared.transfer.Asked.{Asked}
use Rattle.rh_defs.specs.declared.transfer.Incoming.TheVariants as incoming
use Rattle.rh_defs.specs.declared.transfer.Outgoing.TheVariants as outgoing
use Rattle.rh_defs.specs.declared.transfer.Sending.{Sending}
use Rattle.rh_defs.specs.Messages.{Parcel}
use Rattle.rh_defs.specs.Post.{Post, post_poll}
use Rattle.rh_defs.specs.Desk.{Desk, Scrap, Task, has_name, kept_scrap, next_ref}
use Rattle.rh_defs.specs.Commands.{Answer, step}
use Rattle.rh_safety.specs.Offered.{bytes_of_block, source_of}
use Rattle.rh_laws.specs.Partners.{outcome_in}

-- ---- given up

-- the post once the command's messages went: a poll may send another one then
abbrev pub post_polled : Desk → Option Task → Post
post_polled d None = d.post
post_polled d (Some t) = (post_poll t.handle d.post).0

abbrev pub post_left : Desk → Command → Answer → Post
post_left d (command.Poll name) a = post_polled d (find (has_name name) d.tasks)
post_left d c a = a.0.post

-- whether messages go by the command: a death, a poll, or what a task with code of its own answers
abbrev pub takes_messages : Command → Bool
takes_messages (command.Kill name) = true
takes_messages (command.Poll name) = true
takes_messages (command.Repeat name) = true
takes_messages (command.Raw (raw.Send name recorded h ref act bytes)) = true
takes_messages (command.Raw (raw.Ack name)) = true
takes_messages _ = false

-- its DataLoad is no more queued or held
pub record IsGone (d : Desk) (c : Command) (a : Answer) : Type 0 where
  pub takes : takes_messages c ≡ true
  pub dead : kept_scrap (post_left d c a) d.scrap ≡ None

-- ---- loaded

-- how many bytes of the file were loaded
abbrev pub loaded_of : Outcome → Option ℕ
loaded_of (outcome.Loaded n) = Some n
loaded_of (outcome.LoadedFailed n refusal) = Some n
loaded_of _ = None

abbrev pub loaded_in : Option Outcome → Option ℕ
loaded_in None = None
loaded_in (Some o) = loaded_of o

-- a task took the file's own DataLoad, which its sender sent in answer to the task's own DataSaveAck, and loaded all of it
pub record IsLoaded (d : Desk) (c : Command) (a : Answer) : Type 0 where
  pub name : List ℕ
  pub is : c ≡ command.Poll name
  pub task : Task
  pub task_is : find (has_name name) d.tasks ≡ Some task
  pub message : Parcel
  pub taken : (post_poll task.handle d.post).1 ≡ Some message
  pub waits : Asked
  pub asks : Contains task.taking (incoming.Asking waits)
  pub from : message.message.from ≡ waits.sender
  pub answers : message.message.your_ref ≡ waits.ack
  pub file : Scrap
  pub there : d.scrap ≡ Some file
  pub load : message.message.my_ref ≡ file.load
  pub said : loaded_in (outcome_in a.1) ≡ Some (length file.bytes)

-- ---- made

-- a block became the file where there was none: by a spool, or by a poll that answers a DataSaveAck
pub data IsMade (d : Desk) (c : Command) (a : Answer) (file : Scrap) : Type 0 where
  spooled : (name : List ℕ) (k h ref : ℕ) → c ≡ command.Raw (raw.Spool name k h ref) → d.scrap ≡ None →
      source_of (find (has_name name) d.tasks) k ≡ Some file.bytes → a.1 ≡ reply.Sent file.load → IsMade d c a file
  saved : (name : List ℕ) (t : Task) (x : Sending) → c ≡ command.Poll name → find (has_name name) d.tasks ≡ Some t →
      kept_scrap (post_poll t.handle d.post).0 d.scrap ≡ None → Contains t.sending (outgoing.Open x) →
      bytes_of_block t.slot x.anchor ≡ Some file.bytes → outcome_in a.1 ≡ Some (outcome.Saved (length file.bytes) file.load) →
      IsMade d c a file

-- ---- one command

-- the scrap file is as it was, was given up or loaded, or was made by the command, with the next ref
pub data ScrapOf (d : Desk) (c : Command) (a : Answer) : Type 0 where
  kept : a.0.scrap ≡ d.scrap → ScrapOf d c a
  gone : a.0.scrap ≡ None → IsGone d c a → ScrapOf d c a
  loaded : a.0.scrap ≡ None → IsLoaded d c a → ScrapOf d c a
  made : (file : Scrap) → a.0.scrap ≡ Some file → file.load ≡ next_ref d → IsMade d c a file → ScrapOf d c a

-- so it is of each command, whatever the desk
abbrev pub KeepsScrap : Type 0
KeepsScrap = (d : Desk) (c : Command) → ScrapOf d c (step d c)
