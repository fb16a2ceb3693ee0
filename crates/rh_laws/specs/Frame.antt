-- What a command leaves of the tasks that it isn't of. Read Named of rh_defs and TaskRecords of rh_safety first.
-- d is a desk, c a command, h a handle, t a task, n a number of bytes.
use Rattle.std.specs.Prelude.{◌≡◌, ◌≢◌, ◌⊎◌, ℕ, ◌+◌, ◌-◌, ◌≤◌, ◌||◌, Bool, true, false, min, is_some, List, length, take, drop, find, Option, Some, None}
use Rattle.std.specs.List.{Contains}
use Rattle.std.specs.Option.{option_map}
use Rattle.rh_defs.specs.declared.command.Command.{Command}
use Rattle.rh_defs.specs.declared.command.Command.TheVariants as command
use Rattle.rh_defs.specs.declared.raw_command.RawCommand.TheVariants as raw
use Rattle.rh_defs.specs.declared.reply.Outcome.{Outcome}
use Rattle.rh_defs.specs.declared.reply.Outcome.TheVariants as outcome
use Rattle.rh_defs.specs.declared.reply.Reply.{Reply}
use Rattle.rh_defs.specs.declared.reply.Reply.TheVariants as reply
use Rattle.rh_defs.specs.declared.transfer.Sending.{Sending}
use Rattle.rh_defs.specs.declared.transfer.Taking.{Taking}
use Rattle.rh_defs.specs.declared.transfer.Incoming.TheVariants as incoming
use Rattle.rh_defs.specs.declared.transfer.Outgoing.TheVariants as outgoing
use Rattle.rh_defs.specs.declared.message.Body.TheVariants.{RamFetch}
use Rattle.rh_defs.specs.AnyMessage.{read_body}
use Rattle.rh_defs.specs.Messages.{Parcel}
use Rattle.rh_defs.specs.Pieces.{Split}
use Rattle.rh_defs.specs.Heap.{Segment, bytes_of}
use Rattle.rh_defs.specs.Slot.{Flex, Slot, heap_block_at, holds}
use Rattle.rh_defs.specs.Places.{buffer_at, bytes_held, with_heap_bytes, written_held, written_in}
use Rattle.rh_defs.specs.Post.{held_by}
use Rattle.rh_defs.specs.RawTasks.{is_open_to, is_raw, is_raw_at}
use Rattle.rh_defs.specs.Desk.{Desk, Task, has_name, task_at}
use Rattle.rh_defs.specs.Commands.{Answer, step}
use Rattle.rh_defs.specs.Named.{name_in}
use Rattle.rh_safety.specs.Offered.{bytes_of_block}
use Rattle.rh_safety.specs.TaskRecords.{HoldsOne}

-- ---- whose a command is

-- the handle of the live task with the name
abbrev pub handle_of : List ℕ → Desk → Option ℕ
handle_of name d = option_map (λ (t : Task). t.handle) (find (has_name name) d.tasks)

-- the handle of the live task with the name, where there is a name
abbrev pub handle_named : Option (List ℕ) → Desk → Option ℕ
handle_named None d = None
handle_named (Some name) d = handle_of name d

-- the handle of the task that a command is of: a new task has the next one; one on areas and a question are of none
abbrev pub actor : Command → Desk → Option ℕ
actor (command.Task name buffer manner) d = Some d.next_handle
actor (command.Ask q) d = None
actor c d = handle_named (name_in c) d

-- the live task that polls by the command, where one does
abbrev pub poller : Command → Desk → Option Task
poller (command.Poll name) d = find (has_name name) d.tasks
poller _ d = None

-- ---- commands

-- the handle that a command moves bytes to, where it does
abbrev pub moves_to : Command → Option ℕ
moves_to (command.Raw (raw.Transfer name x h y n)) = Some h
moves_to _ = None

-- a command by which no task polls leaves every task but its own, and the one that it moves bytes to, as it was,
-- whatever the desk
abbrev pub LeavesOthers : Type 0
LeavesOthers =
    (d : Desk) (c : Command) (h : ℕ) → poller c d ≡ None → actor c d ≢ Some h → moves_to c ≢ Some h →
    task_at h (step d c).0 ≡ task_at h d

-- What a task with code of its own makes of another one by moving n bytes from x to y: nothing but these n bytes is
-- changed, and the other task opened their place.
pub record MovesInto (d : Desk) (name : List ℕ) (x y n : ℕ) (receiver : Task) (now : Option Task) : Type 0 where
  pub sender : Task
  pub is : find (has_name name) d.tasks ≡ Some sender
  pub codes : is_raw sender.manner ≡ true
  pub has : holds x n sender.slot ≡ true
  pub opened : is_open_to sender.handle (held_by sender.handle d.post.seats) receiver y n ≡ true
  pub moved : now ≡ Some (record receiver { slot = written_held y (bytes_held x n sender.slot) receiver.slot })

-- a transfer leaves the task at the other end as it was, or moves the bytes so, whatever the desk
abbrev pub MovesFit : Type 0
MovesFit =
    (d : Desk) (name : List ℕ) (x h y n : ℕ) (receiver : Task) → task_at h d ≡ Some receiver →
    let now : Option Task = task_at h (step d (command.Raw (raw.Transfer name x h y n))).0 in
    (now ≡ Some receiver) ⊎ MovesInto d name x y n receiver now

-- ---- polls

-- how many bytes went out with the message that was handled
abbrev pub sent_of : Outcome → Option ℕ
sent_of (outcome.Sent n ref) = Some n
sent_of _ = None

-- how many bytes a poll answers that it has sent
abbrev pub sent_in : Reply → Option ℕ
sent_in (reply.Event code action mine yours outcome) = sent_of outcome
sent_in _ = None

-- What a poll of the sender makes of another task: nothing is changed but the first n bytes of one buffer. The other
-- task holds the buffer, Fetching or Draining, for the transfer of an open record of the sender. The n bytes are the
-- source's from that record's count on: as many as the other task asks for at once, or the rest. The poll answers n.
pub record FillsBuffer (sender : Task) (h : ℕ) (before now : Option Task) (said : Reply) : Type 0 where
  pub receiver : Task
  pub was : before ≡ Some receiver
  pub out : Sending
  pub sends : Contains sender.sending (outgoing.Open out)
  pub recipient : out.recipient ≡ h
  pub source : List ℕ
  pub source_is : bytes_of_block sender.slot out.anchor ≡ Some source
  pub into : Taking
  pub holds : HoldsOne receiver into
  pub same_id : into.id ≡ out.id
  pub from : into.sender ≡ sender.handle
  pub buffer : Split Segment
  pub buffer_is : heap_block_at into.buffer receiver.slot ≡ Some buffer
  pub n : ℕ
  pub portion : n ≡ min receiver.buffer (length source - out.count)
  pub room : n ≤ length (bytes_of buffer.here)
  pub filled :
      now ≡ Some (record receiver { slot = with_heap_bytes buffer 0 (take n (drop out.count source)) receiver.slot })
  pub answered : sent_in said ≡ Some n

-- The same of a recipient with code of its own, and a range of room bytes that lies whole in one of its blocks: nothing of
-- it is changed but the first n bytes of that range. That its fetch names the range isn't said.
pub record FillsRange (sender : Task) (h : ℕ) (before now : Option Task) (said : Reply) : Type 0 where
  pub receiver : Task
  pub was : before ≡ Some receiver
  pub codes : is_raw receiver.manner ≡ true
  pub out : Sending
  pub sends : Contains sender.sending (outgoing.Open out)
  pub recipient : out.recipient ≡ h
  pub source : List ℕ
  pub source_is : bytes_of_block sender.slot out.anchor ≡ Some source
  pub address : ℕ
  pub room : ℕ
  pub whole : (is_some (buffer_at address room receiver.slot) || holds address room receiver.slot) ≡ true
  pub n : ℕ
  pub portion : n ≡ min room (length source - out.count)
  pub filled :
      now ≡ Some (record receiver {
        slot = written_in address (take n (drop out.count source)) (buffer_at address room receiver.slot) receiver.slot;
      })
  pub answered : sent_in said ≡ Some n

-- one or the other
abbrev pub Fills : Task → ℕ → Option Task → Option Task → Reply → Type 0
Fills sender h before now said = FillsBuffer sender h before now said ⊎ FillsRange sender h before now said

-- a poll leaves another task as it was, or fills one buffer of it, or a range of it
abbrev pub PollsFill : Desk → Type 0
PollsFill d =
    (name : List ℕ) (sender : Task) (h : ℕ) → find (has_name name) d.tasks ≡ Some sender → sender.handle ≢ h →
    let a : Answer = step d (command.Poll name) in
    (task_at h a.0 ≡ task_at h d) ⊎ Fills sender h (task_at h d) (task_at h a.0) a.1

-- ---- what a task with code of its own can reach

-- n bytes at y lie in the buffer of a record that fetches from the sender
pub record IsInBuffer (sender : ℕ) (r : Task) (y n : ℕ) : Type 0 where
  pub into : Taking
  pub fetches : Contains r.taking (incoming.Fetching into)
  pub from : into.sender ≡ sender
  pub low : into.buffer ≤ y
  pub high : y + n ≤ into.buffer + r.buffer

-- they lie in the range of a fetch of the task that is held, and whole in one of its blocks
pub record IsInRange (held : Option Parcel) (r : Task) (y n : ℕ) : Type 0 where
  pub fetch : Parcel
  pub is_held : held ≡ Some fetch
  pub from : fetch.message.from ≡ r.handle
  pub address : ℕ
  pub room : ℕ
  pub asks : read_body fetch.message.body ≡ RamFetch address room
  pub low : address ≤ y
  pub high : y + n ≤ address + room
  pub whole : holds y n r.slot ≡ true

-- task t moves n bytes from x to y, to task r, which opened their place by a record, or, having code of its own, by a fetch
pub record MovesOpened (d : Desk) (c : Command) (name : List ℕ) (t r : Task) (now : Option Task) : Type 0 where
  pub x : ℕ
  pub y : ℕ
  pub n : ℕ
  pub h : ℕ
  pub is : c ≡ command.Raw (raw.Transfer name x h y n)
  pub opened :
      ((is_raw r.manner ≡ false) × IsInBuffer t.handle r y n)
      ⊎ ((is_raw r.manner ≡ true) × IsInRange (held_by t.handle d.post.seats) r y n)
  pub moved : now ≡ Some (record r { slot = written_held y (bytes_held x n t.slot) r.slot })

-- whatever the desk, no command of such a task changes another one, but by moving bytes so
abbrev pub ReachesOpened : Type 0
ReachesOpened =
    (d : Desk) (c : Command) (name : List ℕ) (t r : Task) (h : ℕ) → name_in c ≡ Some name →
    find (has_name name) d.tasks ≡ Some t → is_raw t.manner ≡ true → t.handle ≢ h → task_at h d ≡ Some r →
    (task_at h (step d c).0 ≡ Some r) ⊎ MovesOpened d c name t r (task_at h (step d c).0)

-- ---- slots

-- the slot of the live task with the handle
abbrev pub task_slot : ℕ → Desk → Option Slot
task_slot h d = option_map (λ (t : Task). t.slot) (task_at h d)

-- whether a command of a task with code of its own is about messages alone
abbrev pub is_of_messages : Command → Bool
is_of_messages (command.Raw (raw.Send name recorded to ref a bytes)) = true
is_of_messages (command.Raw (raw.Ack name)) = true
is_of_messages (command.Raw (raw.Spool name k to ref)) = true
is_of_messages _ = false

-- Whatever the desk: such a command changes no slot, not even its own task's, and no record; a poll of such a task changes
-- no task at all.
pub record SendsAlone (d : Desk) : Type 0 where
  pub slots : (c : Command) (h : ℕ) → is_of_messages c ≡ true → task_slot h (step d c).0 ≡ task_slot h d
  pub outs :
      (c : Command) (h : ℕ) → is_of_messages c ≡ true →
      option_map (λ (t : Task). t.sending) (task_at h (step d c).0) ≡ option_map (λ (t : Task). t.sending) (task_at h d)
  pub ins :
      (c : Command) (h : ℕ) → is_of_messages c ≡ true →
      option_map (λ (t : Task). t.taking) (task_at h (step d c).0) ≡ option_map (λ (t : Task). t.taking) (task_at h d)
  pub polls :
      (name : List ℕ) (t : Task) → find (has_name name) d.tasks ≡ Some t → is_raw t.manner ≡ true →
      (step d (command.Poll name)).0.tasks ≡ d.tasks

-- ---- flex blocks

-- a task's flex blocks, from below
abbrev pub flex_blocks : Task → List Flex
flex_blocks t = t.slot.blocks

-- no command changes the flex blocks of a task that it isn't of, but of one that it moves bytes to, or that has code of
-- its own
abbrev pub KeepsBlocks : Desk → Type 0
KeepsBlocks d =
    (c : Command) (h : ℕ) → actor c d ≢ Some h → moves_to c ≢ Some h → is_raw_at h d ≡ false →
    option_map flex_blocks (task_at h (step d c).0) ≡ option_map flex_blocks (task_at h d)
