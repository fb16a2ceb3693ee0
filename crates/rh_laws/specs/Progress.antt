-- Polls alone come to rest: what is left to do at a desk, as a number, and that each message taken makes it less.
-- Read Transfer of rh_defs first. d is a desk, t a task, s a seat or a slot, p a message in its block, b a body, x an
-- open transfer. `-` of naturals stops at 0: a source of no more bytes than its record counts leaves no byte
-- (*source_work*).
use Rattle.std.specs.Prelude.{◌≡◌, ℕ, ◌+◌, ◌-◌, ◌*◌, ◌≤◌, Bool, true, false, List, [], length, map, filter, Option, Some, None}
use Rattle.std.specs.List.{AllByRecursion, Contains, flat_map}
use Rattle.rh_defs.specs.declared.command.Command.{Command}
use Rattle.rh_defs.specs.declared.command.Command.TheVariants as command
use Rattle.rh_defs.specs.declared.message.Body.{Body}
use Rattle.rh_defs.specs.declared.message.Body.TheVariants as body
use Rattle.rh_defs.specs.declared.message.EventCode.{EventCode}
use Rattle.rh_defs.specs.declared.message.EventCode.TheVariants.{User, Recorded, Acknowledge}
use Rattle.rh_defs.specs.declared.reply.Reply.{Reply}
use Rattle.rh_defs.specs.declared.reply.Reply.TheVariants as reply
use Rattle.rh_defs.specs.declared.transfer.Outgoing.{Outgoing}
use Rattle.rh_defs.specs.declared.transfer.Outgoing.TheVariants as outgoing
use Rattle.rh_defs.specs.Pieces.{total}
use Rattle.rh_defs.specs.Range.{all_in_range}
use Rattle.rh_defs.specs.Laws.{Always}
use Rattle.rh_defs.specs.Slot.{Slot}
use Rattle.rh_defs.specs.Messages.{Parcel}
use Rattle.rh_defs.specs.AnyMessage.{read_body}
use Rattle.rh_defs.specs.Post.{Post, Seat}
use Rattle.rh_defs.specs.Desk.{Desk, Task, next_ref}
use Rattle.rh_defs.specs.Runs.{after, replies}
use Rattle.rh_safety.specs.Offered.{bytes_of_block}

-- ---- what is left to do

-- after a message that came back: for a fetch, a file may be asked for
abbrev pub work_back : Body → ℕ
work_back (body.RamFetch buffer n) = 6
work_back _ = 1

-- after a message that is on its way to its recipient: each kind leaves more than the one that answers it
abbrev pub work_ahead : Body → ℕ
work_ahead (body.DataSave file) = 9
work_ahead (body.DataSaveAck file) = 5
work_ahead (body.DataLoad file) = 4
work_ahead (body.DataLoadAck file) = 3
work_ahead (body.RamFetch buffer n) = 8
work_ahead (body.RamTransmit buffer n) = 9
work_ahead (body.Other o) = 3

-- after a message that is queued
abbrev pub work_queued : EventCode → Body → ℕ
work_queued User b = work_ahead b
work_queued Recorded b = work_ahead b
work_queued Acknowledge b = work_back b

-- after a message that is queued in its block, as it is read
abbrev pub parcel_work : Parcel → ℕ
parcel_work p = work_queued p.code (read_body p.message.body)

-- after a message that is held: it will come back
abbrev pub held_work : Option Parcel → ℕ
held_work None = 0
held_work (Some p) = work_back (read_body p.message.body) + 1

-- the work of all messages
abbrev pub post_work : Post → ℕ
post_work post = total parcel_work post.queued + total (λ (s : Seat). held_work s.holds) post.seats

-- the length of what there may be
abbrev pub length_of : Option (List ℕ) → ℕ
length_of None = 0
length_of (Some bytes) = length bytes

-- after so many bytes of a source: two for each byte that is left, and two for the end
abbrev pub source_work : Option (List ℕ) → ℕ → ℕ
source_work source count = 2 * (length_of source - count + 1)

-- a transfer that goes out leaves what its source has beyond its count
abbrev pub out_work : Slot → Outgoing → ℕ
out_work s (outgoing.Open x) = source_work (bytes_of_block s x.anchor) x.count
out_work s _ = 0

-- the work of a task's transfers
abbrev pub task_work : Task → ℕ
task_work t = total (out_work t.slot) t.sending

-- what is left to do at a desk, at most
abbrev pub work : Desk → ℕ
work d = post_work d.post + total task_work d.tasks

-- ---- polls

-- the polls of the tasks with these names
abbrev pub polls : List (List ℕ) → List Command
polls names = map command.Poll names

-- whether a reply says that a message was taken
abbrev pub is_event : Reply → Bool
is_event (reply.Event code action my_ref your_ref outcome) = true
is_event _ = false

-- how many of the replies do
abbrev pub events : List Reply → ℕ
events said = length (filter is_event said)

-- The messages that the commands take, and the work after them, are no more than the work before; no more messages are
-- sent than taken.
pub record WorksOff (d : Desk) (commands : List Command) : Type 0 where
  pub falls : events (replies d commands) + work (after d commands) ≤ work d
  pub sends : next_ref (after d commands) ≤ next_ref d + events (replies d commands)

-- nothing is queued or held
pub record IsAtRest (post : Post) : Type 0 where
  pub queue : post.queued ≡ []
  pub held : AllByRecursion (λ (s : Seat). s.holds ≡ None) post.seats

-- each live task's name is among these
abbrev pub NamesAll : Desk → List (List ℕ) → Type 0
NamesAll d names = AllByRecursion (λ (t : Task). Contains names t.name) d.tasks

-- the polls of one round after the other
abbrev pub rounds_of : List (List (List ℕ)) → List Command
rounds_of rounds = flat_map polls rounds

-- after as many rounds as there is work, each of which polls every live task, the post is at rest
abbrev pub ComesToRest : Desk → Type 0
ComesToRest d =
    (rounds : List (List (List ℕ))) → all_in_range (rounds_of rounds) ≡ true → AllByRecursion (NamesAll d) rounds →
    work d ≤ length rounds → IsAtRest (after d (rounds_of rounds)).post

-- whatever tasks are polled from then on, each message taken leaves less to do; rounds of all tasks bring it to rest
pub record Progresses (d : Desk) : Type 0 where
  pub falls : (names : List (List ℕ)) → all_in_range (polls names) ≡ true → WorksOff d (polls names)
  pub rests : ComesToRest d

-- so it is of each desk that a run reaches
abbrev pub AlwaysProgresses : Type 0
AlwaysProgresses = Always Progresses
