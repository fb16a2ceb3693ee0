-- A fetch that would be answered names a buffer that is still held for it. Read Commands of rh_defs first.
-- d is a desk, m a message in its block, s a slot, x the open record that would answer, n the bytes that are fetched, r
-- a refusal. The sender is here the task that sent the fetch, which receives the transfer.
use Rattle.std.specs.Prelude.{◌≡◌, ◌≢◌, ℕ, ◌≤◌, Bool, true, false, List, length, Option, Some, None, Ok, ◌⊎◌}
use Rattle.std.specs.List.{Contains}
use Rattle.std.specs.Option.{option_map}
use Rattle.rh_defs.specs.Pieces.{Split}
use Rattle.rh_defs.specs.Heap.{Segment, bytes_of}
use Rattle.rh_defs.specs.Slot.{Slot, heap_block_at}
use Rattle.rh_defs.specs.Messages.{Parcel}
use Rattle.rh_defs.specs.declared.refusal.Refusal.{Refusal}
use Rattle.rh_defs.specs.declared.refusal.Refusal.TheVariants.{BadRange}
use Rattle.rh_defs.specs.declared.message.EventCode.TheVariants.{Recorded}
use Rattle.rh_defs.specs.declared.message.Body.TheVariants as body
use Rattle.rh_defs.specs.declared.reply.Outcome.{Outcome}
use Rattle.rh_defs.specs.declared.reply.Outcome.TheVariants as outcome
use Rattle.rh_defs.specs.declared.command.Command.TheVariants as command
use Rattle.rh_defs.specs.declared.reply.Reply.{Reply}
use Rattle.rh_defs.specs.declared.reply.Reply.TheVariants as reply
use Rattle.rh_defs.specs.declared.transfer.Sending.{Sending}
use Rattle.rh_defs.specs.declared.transfer.Taking.{Taking}
use Rattle.rh_defs.specs.declared.transfer.Outgoing.TheVariants as outgoing
use Rattle.rh_defs.specs.declared.transfer.Incoming.TheVariants as incoming
use Rattle.rh_defs.specs.Sender.{would_answer}
use Rattle.rh_defs.specs.Transfer.{answers_none}
use Rattle.rh_defs.specs.Desk.{Desk, Task, named, task_at}
use Rattle.rh_defs.specs.Post.{post_poll}
use Rattle.rh_defs.specs.RawTasks.{is_raw, is_raw_at}
use Rattle.rh_defs.specs.Commands.{step}

-- the bytes of the block of the C heap at an address
abbrev pub bytes_of_buffer : Slot → ℕ → Option (List ℕ)
bytes_of_buffer s address = option_map (λ (b : Split Segment). bytes_of b.here) (heap_block_at address s)

-- a queued fetch of n bytes to the address, which the recipient's open record would answer, from a live task
pub record IsAnswerable (d : Desk) (m : Parcel) (recipient sender : Task) (x : Sending) (address n : ℕ) : Type 0 where
  pub queued : Contains d.post.queued m
  pub recorded : m.code ≡ Recorded
  pub fetch : m.message.body ≡ body.RamFetch address n
  pub recipient_is : task_at m.to d ≡ Some recipient
  pub answers : answers_none recipient.manner ≡ false
  pub open_ : Contains recipient.sending (outgoing.Open x)
  pub answered : would_answer m.message.from m.message.your_ref n x ≡ true
  pub sender_is : task_at m.message.from d ≡ Some sender

-- the task holds the buffer at the address for the transfer with the id, Fetching or Draining; it has n bytes at least
pub record HoldsBuffer (t : Task) (id address n : ℕ) : Type 0 where
  pub taking : Taking
  pub is_held : Contains t.taking (incoming.Fetching taking) ⊎ Contains t.taking (incoming.Draining taking)
  pub same_id : taking.id ≡ id
  pub names : taking.buffer ≡ address
  pub bytes : List ℕ
  pub there : bytes_of_buffer t.slot address ≡ Some bytes
  pub room : n ≤ length bytes

-- each such fetch of a task that the desk plays names a buffer that its sender holds for the transfer of that record: a
-- task with code of its own may name any address
abbrev pub HasBuffers : Desk → Type 0
HasBuffers d =
    (m : Parcel) (recipient sender : Task) (x : Sending) (address n : ℕ) →
    IsAnswerable d m recipient sender x address n → is_raw sender.manner ≡ false → HoldsBuffer sender x.id address n

-- each such fetch does
abbrev pub HasAllBuffers : Desk → Type 0
HasAllBuffers d =
    (m : Parcel) (recipient sender : Task) (x : Sending) (address n : ℕ) →
    IsAnswerable d m recipient sender x address n → HoldsBuffer sender x.id address n

-- ---- refusals in polls

-- the refusal that an outcome names
abbrev pub outcome_refusal : Outcome → Option Refusal
outcome_refusal (outcome.Refused r) = Some r
outcome_refusal (outcome.TookFailed n r) = Some r
outcome_refusal (outcome.LoadedFailed n r) = Some r
outcome_refusal _ = None

-- the refusal with which a poll says that something failed
abbrev pub failed_by : Reply → Option Refusal
failed_by (reply.Event code action my_ref your_ref outcome) = outcome_refusal outcome
failed_by _ = None

-- whether a message that is taken is of a live task with code of its own
abbrev pub takes_raw : Option Parcel → Desk → Bool
takes_raw None d = false
takes_raw (Some m) d = is_raw_at m.message.from d

-- no poll answers that a range was bad, but to a message of such a task
abbrev pub HasGoodRanges : Desk → Type 0
HasGoodRanges d =
    (name : List ℕ) → ((t : Task) → named name d ≡ Ok t → takes_raw (post_poll t.handle d.post).1 d ≡ false) →
    failed_by (step d (command.Poll name)).1 ≢ Some BadRange

-- no poll answers that
abbrev pub HasAllGoodRanges : Desk → Type 0
HasAllGoodRanges d = (name : List ℕ) → failed_by (step d (command.Poll name)).1 ≢ Some BadRange
