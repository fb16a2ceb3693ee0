-- What each command of a task with code of its own does, as steps of which the first refusal is the answer.
-- Read RawTasks and OutgoingEvents first. d is the desk, t the task, r the one at the other end, h its handle, k an
-- anchor, ref the ref of the message that is answered, x and y are addresses, n a number of bytes.
-- A step alone in a `do` counts for its refusal alone.
use Rattle.std.specs.Prelude.{ℕ, Bool, false, not, ◌&&◌, ◌||◌, nat_le, nat_lt, ◌==◌, if◌then◌else◌, List, [], length, is_some, unwrap_or, Option, Some, None, Ok}
use Rattle.rh_defs.specs.declared.refusal.Refusal.TheVariants.{NoTask, NoFile, Busy, BadRange, NoRoom, WrongManner, BadRef}
use Rattle.rh_defs.specs.declared.message.EventCode.TheVariants.{User, Recorded}
use Rattle.rh_defs.specs.declared.message.Body.TheVariants.{DataLoad}
use Rattle.rh_defs.specs.declared.message.Letter.{Letter}
use Rattle.rh_defs.specs.declared.raw_command.RawCommand.{RawCommand}
use Rattle.rh_defs.specs.declared.raw_command.RawCommand.TheVariants as raw
use Rattle.rh_defs.specs.declared.reply.Reply.{Reply}
use Rattle.rh_defs.specs.declared.reply.Reply.TheVariants as reply
use Rattle.rh_defs.specs.Chain.{Granted, ◌>>=◌, ◌>>◌, refuse_if, found_or}
use Rattle.rh_defs.specs.Slot.{slot_block, slot_alloc, slot_put, holds}
use Rattle.rh_defs.specs.Messages.{Parcel}
use Rattle.rh_defs.specs.AnyMessage.{body_of}
use Rattle.rh_defs.specs.Post.{answers_held, held_by, put_down, sendable}
use Rattle.rh_defs.specs.Letters.{file_of, scrap_name}
use Rattle.rh_defs.specs.Desk.{Desk, Task, Scrap, next_ref, free_pages, named, task_at, with_task, with_slot, with_delivered, send_letter}
use Rattle.rh_defs.specs.Places.{bytes_held, written_held, overlap}
use Rattle.rh_defs.specs.OutgoingEvents.{scrap_shortage, wider}
use Rattle.rh_defs.specs.RawTasks.{is_raw, is_open_to}

-- ---- messages

-- a letter of any action
abbrev pub raw_letter : ℕ → Bool → ℕ → ℕ → ℕ → List ℕ → Letter
raw_letter from recorded to ref a bytes =
    record { code = if recorded then Recorded else User; from = from; to = to; your_ref = ref; body = body_of a bytes }

-- the desk after a letter: a scrap file whose DataLoad it answers is given up
abbrev pub after_answer : Desk → Desk
after_answer sent = with_delivered sent.post sent

-- a message of any action
unfoldable pub send : Desk → List ℕ → Bool → ℕ → ℕ → ℕ → List ℕ → Granted (Desk × Reply)
send d name recorded h ref a bytes = do
  t ← named name d
  sent ← send_letter (raw_letter t.handle recorded h ref a bytes) d
  refuse_if (not (is_raw t.manner)) WrongManner
  refuse_if (nat_le (next_ref d) ref) BadRef
  Ok (after_answer sent, reply.Sent (next_ref d))

-- the ref of a message that is held, 0 where none is
abbrev pub ref_of_held : Option Parcel → ℕ
ref_of_held None = 0
ref_of_held (Some p) = p.message.my_ref

-- what the task holds is answered, and nothing is sent
unfoldable pub ack : Desk → List ℕ → Granted (Desk × Reply)
ack d name = do
  t ← named name d
  refuse_if (not (is_raw t.manner)) WrongManner
  Ok (with_delivered (put_down t.handle d.post) d, reply.Answering (ref_of_held (held_by t.handle d.post.seats)))

-- ---- bytes

-- bytes written at an address of the task's own slot
unfoldable pub write : Desk → List ℕ → ℕ → List ℕ → Granted (Desk × Reply)
write d name x bytes = do
  t ← named name d
  refuse_if (not (holds x (length bytes) t.slot)) BadRange
  refuse_if (not (is_raw t.manner)) WrongManner
  Ok (with_slot t.handle (written_held x bytes t.slot) d, reply.Done)

-- whether the task at the other end is live, and didn't open the bytes
abbrev pub is_shut : ℕ → Option Parcel → ℕ → ℕ → Option Task → Bool
is_shut from held y n None = false
is_shut from held y n (Some r) = not (is_open_to from held r y n)

-- whether n bytes can't be moved from x to y: they aren't the task's, they are in their own way, or y isn't open
abbrev pub is_bad_move : Desk → Task → ℕ → ℕ → ℕ → ℕ → Bool
is_bad_move d t x h y n =
    not (holds x n t.slot) || (t.handle == h && overlap x n y n)
    || is_shut t.handle (held_by t.handle d.post.seats) y n (task_at h d)

-- bytes of the task moved to a task that opened their place
unfoldable pub transfer : Desk → List ℕ → ℕ → ℕ → ℕ → ℕ → Granted (Desk × Reply)
transfer d name x h y n = do
  t ← named name d
  refuse_if (is_bad_move d t x h y n) BadRange
  r ← found_or (task_at h d) NoTask
  refuse_if (not (is_raw t.manner)) WrongManner
  Ok (with_task r.handle (λ r. record r { slot = written_held y (bytes_held x n t.slot) r.slot }) d, reply.Done)

-- ---- the scrap file

-- the DataLoad of a scrap file of so many bytes
abbrev pub spool_letter : ℕ → ℕ → ℕ → ℕ → Letter
spool_letter from to ref size =
    record { code = Recorded; from = from; to = to; your_ref = ref; body = DataLoad (file_of size scrap_name) }

-- a block becomes the scrap file, and its DataLoad is sent; both take free pages
unfoldable pub spool : Desk → List ℕ → ℕ → ℕ → ℕ → Granted (Desk × Reply)
spool d name k h ref = do
  t ← named name d
  b ← slot_block k t.slot
  refuse_if (is_some d.scrap) Busy
  sendable (spool_letter t.handle h ref (length b.here.bytes)) d.post
  refuse_if (nat_lt (free_pages d) (scrap_shortage (length b.here.bytes) d)) NoRoom
  sent ← send_letter (spool_letter t.handle h ref (length b.here.bytes)) (wider (scrap_shortage (length b.here.bytes) d) d)
  refuse_if (not (is_raw t.manner)) WrongManner
  refuse_if (nat_le (next_ref d) ref) BadRef
  Ok (record sent { scrap = Some (record { load = next_ref d; bytes = b.here.bytes }) }, reply.Sent (next_ref d))

-- the scrap file, where the task holds its DataLoad
abbrev pub file_held : Option Parcel → Option Scrap → Option Scrap
file_held held None = None
file_held held (Some file) = if answers_held file.load held then Some file else None

-- a block with the scrap file's bytes on top of the task's slot; the file stays
unfoldable pub scrap : Desk → List ℕ → ℕ → Granted (Desk × Reply)
scrap d name k = do
  t ← named name d
  file ← found_or (file_held (held_by t.handle d.post.seats) d.scrap) NoFile
  p ← slot_alloc (free_pages d) k (length file.bytes) t.slot
  s ← slot_put k 0 file.bytes p.0
  refuse_if (not (is_raw t.manner)) WrongManner
  Ok (with_slot t.handle s d, reply.Block p.1)

-- ---- one of them

-- what such a command changes and answers, or why it is refused
abbrev pub raw_change : Desk → RawCommand → Granted (Desk × Reply)
raw_change d (raw.Send name recorded h ref a bytes) = send d name recorded h ref a (unwrap_or bytes [])
raw_change d (raw.Write name x bytes) = write d name x bytes
raw_change d (raw.Transfer name x h y n) = transfer d name x h y n
raw_change d (raw.Ack name) = ack d name
raw_change d (raw.Spool name k h ref) = spool d name k h ref
raw_change d (raw.Scrap name k) = scrap d name k
