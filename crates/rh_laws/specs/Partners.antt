-- For whom a poll changes records: what came, for those alone whose other end sent it; what came back, for that which waits
-- by it. And what a record says Done by. Read Transfer of rh_defs first.
-- t is the task that polls, m the message that it takes, o what was done with it, v a record after the poll, w and x are
-- records before it, f and g are transfers that fetch, q one that waits for a file, y is an open one that goes out, j and
-- n are numbers of bytes.
use Rattle.std.specs.Prelude.{◌≡◌, ℕ, ◌+◌, ◌<◌, List, length, find, Option, Some, None}
use Rattle.std.specs.List.{AllByRecursion, Contains}
use Rattle.std.specs.Option.{option_map}
use Rattle.rh_defs.specs.declared.command.Command.TheVariants as command
use Rattle.rh_defs.specs.declared.message.Body.{Body}
use Rattle.rh_defs.specs.declared.message.Body.TheVariants.{DataLoadAck, RamFetch}
use Rattle.rh_defs.specs.declared.message.EventCode.{EventCode}
use Rattle.rh_defs.specs.declared.message.EventCode.TheVariants.{Acknowledge}
use Rattle.rh_defs.specs.declared.reply.Outcome.{Outcome}
use Rattle.rh_defs.specs.declared.reply.Outcome.TheVariants as outcome
use Rattle.rh_defs.specs.declared.reply.Reply.{Reply}
use Rattle.rh_defs.specs.declared.reply.Reply.TheVariants as reply
use Rattle.rh_defs.specs.declared.transfer.Incoming.{Incoming}
use Rattle.rh_defs.specs.declared.transfer.Incoming.TheVariants as incoming
use Rattle.rh_defs.specs.declared.transfer.Outgoing.{Outgoing}
use Rattle.rh_defs.specs.declared.transfer.Outgoing.TheVariants as outgoing
use Rattle.rh_defs.specs.declared.transfer.Asked.{Asked}
use Rattle.rh_defs.specs.declared.transfer.Sending.{Sending}
use Rattle.rh_defs.specs.declared.transfer.Taking.{Taking}
use Rattle.rh_defs.specs.AnyMessage.{read_body}
use Rattle.rh_defs.specs.Messages.{Parcel}
use Rattle.rh_defs.specs.Post.{post_poll}
use Rattle.rh_defs.specs.Receiver.{asked_by}
use Rattle.rh_defs.specs.Records.{in_id, out_id}
use Rattle.rh_defs.specs.Desk.{Desk, Task, has_name, task_at}
use Rattle.rh_defs.specs.Commands.{step}
use Rattle.rh_safety.specs.Offered.{bytes_of_block}

-- ---- which records a message is for

-- the other end of a record that comes in and goes on
abbrev pub end_in : Incoming → Option ℕ
end_in (incoming.Fetching f) = Some f.sender
end_in (incoming.Draining f) = Some f.sender
end_in (incoming.Asking q) = Some q.sender
end_in _ = None

-- the ref of the message that it waits by
abbrev pub ref_in : Incoming → Option ℕ
ref_in (incoming.Fetching f) = Some f.fetch
ref_in (incoming.Draining f) = Some f.fetch
ref_in (incoming.Asking q) = Some q.ack
ref_in _ = None

-- a message that came is for records whose other end sent it, one that came back for the record that waits by it
abbrev pub IsFor : EventCode → Parcel → Option ℕ → Option ℕ → Type 0
IsFor Acknowledge m other ref = ref ≡ Some m.message.my_ref
IsFor _ m other ref = other ≡ Some m.message.from

-- ---- what a record says Done by

-- a record that comes in: the last bytes, of fewer than a buffer has, or a file was loaded
abbrev pub DoneIn : Task → ℕ → Outcome → Incoming → Type 0
DoneIn t n (outcome.TookLast j) (incoming.Fetching f) = (j < t.buffer) × (n ≡ f.count + j)
DoneIn t n (outcome.Loaded j) (incoming.Asking q) = n ≡ j
DoneIn t n _ _ = ⊥

-- one that goes on: a whole buffer was taken, and is counted, and the next fetch was sent
abbrev pub FetchesOn : Outcome → Taking → Incoming → Type 0
FetchesOn (outcome.TookFull j ref) g (incoming.Fetching f) = g ≡ record f { count = f.count + j; fetch = ref }
FetchesOn _ g _ = ⊥

-- one whose sender is asked for a file, where no byte was taken
abbrev pub AsksOn : Outcome → Asked → Incoming → Type 0
AsksOn (outcome.Asked ref) q (incoming.Fetching f) = (f.count ≡ 0) × (q ≡ asked_by f ref)
AsksOn _ q _ = ⊥

-- record w became v
abbrev pub EndsIn : Task → Outcome → Incoming → Incoming → Type 0
EndsIn t o w (incoming.Fetching g) = FetchesOn o g w
EndsIn t o w (incoming.Draining g) = ⊥
EndsIn t o w (incoming.Asking q) = AsksOn o q w
EndsIn t o w (incoming.Done id k n) = DoneIn t n o w
EndsIn t o w (incoming.Failed id k n) = Unit {0}

-- the message asks for more bytes than go out
abbrev pub AsksMore : ℕ → Body → Type 0
AsksMore j (RamFetch buffer room) = j < room
AsksMore j _ = ⊥

-- the message says that a file was loaded
abbrev pub SaysLoaded : Body → Type 0
SaysLoaded (DataLoadAck file) = Unit {0}
SaysLoaded _ = ⊥

-- a record that goes out: the last bytes went out, or its recipient answers its last message and says that it loaded a file
abbrev pub DoneOut : Task → Parcel → ℕ → Outcome → Sending → Type 0
DoneOut t m n (outcome.Sent j ref) x = AsksMore j (read_body m.message.body) × (n ≡ x.count + j)
DoneOut t m n outcome.Done x =
    SaysLoaded (read_body m.message.body) × (m.message.your_ref ≡ x.last)
    × (option_map length (bytes_of_block t.slot x.anchor) ≡ Some n)
DoneOut t m n _ x = ⊥

-- one that goes on: bytes went out, and are counted, or the source became the scrap file
abbrev pub SendsOn : Outcome → Sending → Sending → Type 0
SendsOn (outcome.Sent j ref) x y = y ≡ record x { count = x.count + j; last = ref }
SendsOn (outcome.Saved j ref) x y = y ≡ record x { last = ref }
SendsOn _ x y = ⊥

-- record x became v
abbrev pub EndsOut : Task → Parcel → Outcome → Sending → Outgoing → Type 0
EndsOut t m o x (outgoing.Open y) = SendsOn o x y
EndsOut t m o x (outgoing.Done id n) = DoneOut t m n o x
EndsOut t m o x (outgoing.Failed id n) = Unit {0}

-- ---- what becomes of records

-- a record that comes in is as it was, or the message was for it, or it begins by a message that came
pub data ComesOf (t : Task) (m : Parcel) (o : Outcome) (v : Incoming) : Type 0 where
  kept : Contains t.taking v → ComesOf t m o v
  turned : (w : Incoming) → Contains t.taking w → in_id w ≡ in_id v → IsFor m.code m (end_in w) (ref_in w) →
      EndsIn t o w v → ComesOf t m o v
  begun : (f : Taking) → v ≡ incoming.Fetching f → f.id ≡ m.message.my_ref → f.sender ≡ m.message.from →
      (m.code ≡ Acknowledge → ⊥) → ComesOf t m o v

-- a record that goes out is as it was, or the message was for it
pub data GoesOf (t : Task) (m : Parcel) (o : Outcome) (v : Outgoing) : Type 0 where
  kept : Contains t.sending v → GoesOf t m o v
  turned : (x : Sending) → Contains t.sending (outgoing.Open x) → x.id ≡ out_id v →
      IsFor m.code m (Some x.recipient) (Some x.last) → EndsOut t m o x v → GoesOf t m o v

-- what a poll did with the message that it took
abbrev pub outcome_in : Reply → Option Outcome
outcome_in (reply.Event code action mine yours o) = Some o
outcome_in _ = None

-- the records of the task that polls
pub record KeepsPartners (t : Task) (m : Parcel) (o : Outcome) (now : Task) : Type 0 where
  pub comes : AllByRecursion (ComesOf t m o) now.taking
  pub goes : AllByRecursion (GoesOf t m o) now.sending

-- so it is of each poll that takes a message
abbrev pub PollsPartners : Desk → Type 0
PollsPartners d =
    (name : List ℕ) (t now : Task) (m : Parcel) (o : Outcome) → find (has_name name) d.tasks ≡ Some t →
    (post_poll t.handle d.post).1 ≡ Some m → outcome_in (step d (command.Poll name)).1 ≡ Some o →
    task_at t.handle (step d (command.Poll name)).0 ≡ Some now → KeepsPartners t m o now
