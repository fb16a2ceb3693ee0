-- What each command does, as steps of which the first refusal is the answer; and the desk after one command (*step*).
-- Read Desk, Slot and Module first. d is the desk, t the task, k an anchor or the number of an area, n a size, m a made
-- area; of what a call gives, .0 is left and .1 is answered. `_ ← step` or a step alone counts for its refusal alone.
-- `-` of naturals stops at 0: an address below the module area becomes 0 there, where no block is; an area that doesn't
-- get longer takes no free pages (*pages_after*).
use Rattle.std.specs.Prelude.{ℕ, ◌+◌, ◌-◌, ◌*◌, ◌/◌, ◌^◌, ℤ, pos, negsuc, Bool, false, not, nat_lt, nat_le, ◌==◌, if◌then◌else◌, List, [], ◌∷◌, ◌++◌, length, filter, find, map, slice_index, slice_set, Option, Some, None, Ok, true}
use Rattle.std.specs.List.{list_any}
use Rattle.std.specs.Str.{bytes_eq}
use Rattle.rh_defs.specs.declared.refusal.Refusal.TheVariants.{NameInUse, TooManyTasks, NoHandles, NoFile, NotABlock, NotYours, ExcessiveShrink, NoRoom, NoArea, TooManyAreas, NoNumbers, TooBig, NoTask, NothingSent, Busy, WrongManner}
use Rattle.rh_defs.specs.declared.command.Manner.{Manner}
use Rattle.rh_defs.specs.declared.reply.Reply.{Reply}
use Rattle.rh_defs.specs.declared.reply.Reply.TheVariants as reply
use Rattle.rh_defs.specs.Chain.{Granted, ◌>>=◌, ◌>>◌, refuse_if, found_or, or_else}
use Rattle.rh_defs.specs.Forms.{last_made}
use Rattle.rh_defs.specs.Pieces.{page_size, lacks_pages, Split}
use Rattle.rh_defs.specs.Heap.{Segment, block_at}
use Rattle.rh_defs.specs.Module.{whole_pages, changed_length, module_claim, module_free, module_resize, module_change}
use Rattle.rh_defs.specs.Slot.{Slot, slot_begin, slot_alloc, slot_free, slot_extend, slot_mid, slot_put, slot_claim, slot_release, slot_resize, slot_set_budge}
use Rattle.rh_defs.specs.Post.{post_join, post_is_message, post_death, post_poll}
use Rattle.rh_defs.specs.Desk.{Desk, Made, most_tasks, free_pages, has_name, named, idle_block, idle_buffer, with_task, with_slot, with_module, with_delivered, Task, module_area, module_start, scrap_area, most_made, file_length, next_ref, with_sending, with_taking, send_letter}
use Rattle.rh_defs.specs.declared.command.Command.{Command}
use Rattle.rh_defs.specs.declared.command.Command.TheVariants as command
use Rattle.rh_defs.specs.Messages.{Parcel, action_of}
use Rattle.rh_defs.specs.Letters.{save_letter}
use Rattle.rh_defs.specs.Records.{is_open, is_full}
use Rattle.rh_defs.specs.Sender as sender
use Rattle.rh_defs.specs.Receiver as receiver
use Rattle.rh_defs.specs.Questions.{asked}
use Rattle.rh_defs.specs.OutgoingEvents.{Handled}
use Rattle.rh_defs.specs.Transfer.{received}
use Rattle.rh_defs.specs.AnyMessage.{as_read}
use Rattle.rh_defs.specs.IncomingEvents.{without_buffer}
use Rattle.rh_defs.specs.RawTasks.{is_raw}
use Rattle.rh_defs.specs.RawCommands.{raw_change, after_answer}
use Rattle.rh_defs.specs.declared.transfer.Taking.{Taking}

-- the desk after a command, and its reply
abbrev pub Answer : Type 0
Answer = Desk × Reply

-- ---- tasks

-- the desk with one more task, which has no records and has sent nothing
abbrev pub with_new_task : List ℕ → ℕ → Manner → Slot → Desk → Desk
with_new_task name buffer manner s d = record d {
  tasks = d.tasks ++ record { handle = d.next_handle; name = name; buffer = buffer; manner = manner; slot = s; sending = []; taking = []; last_sent = None } ∷ [];
  post = post_join d.next_handle d.post;
  next_handle = d.next_handle + 1;
}

-- a task begins with a fresh slot; handles are 32-bit words and are never given twice
unfoldable pub start_task : Desk → List ℕ → ℕ → Manner → Granted Answer
start_task d name buffer manner = do
  refuse_if (list_any (has_name name) d.tasks) NameInUse
  refuse_if (nat_le most_tasks (length d.tasks)) TooManyTasks
  refuse_if (nat_le (2 ^ 32) d.next_handle) NoHandles
  s ← slot_begin (free_pages d)
  Ok (with_new_task name buffer manner s d, reply.Started d.next_handle)

-- the task's end: its messages bounce or vanish, and its pages are free
unfoldable pub kill : Desk → List ℕ → Granted Answer
kill d name = do
  t ← named name d
  Ok (
    record (with_delivered (post_death t.handle d.post) d) { tasks = filter (λ other. not (other.handle == t.handle)) d.tasks },
    reply.Done,
  )

-- ---- flex blocks

-- a block of zeros on top of the task's slot
unfoldable pub alloc : Desk → List ℕ → ℕ → ℕ → Granted Answer
alloc d name k n = do
  t ← named name d
  p ← slot_alloc (free_pages d) k n t.slot
  Ok (with_slot t.handle p.0 d, reply.Block p.1)

-- a block with a file's bytes on top of the task's slot
unfoldable pub load : Desk → List ℕ → ℕ → List ℕ → Granted Answer
load d name k file = do
  t ← named name d
  entry ← found_or (find (λ entry. bytes_eq entry.0 file) d.files) NoFile
  p ← slot_alloc (free_pages d) k (length entry.1) t.slot
  s ← slot_put k 0 entry.1 p.0
  Ok (with_slot t.handle s d, reply.Block p.1)

-- a call on the slot of a task, whose block at the anchor isn't busy
abbrev pub on_idle_block : Desk → List ℕ → ℕ → (Slot → Granted Slot) → Granted Answer
on_idle_block d name k call = do
  t ← named name d
  _ ← idle_block k t
  s ← call t.slot
  Ok (with_slot t.handle s d, reply.Done)

-- bytes written into a block
unfoldable pub put : Desk → List ℕ → ℕ → ℕ → List ℕ → Granted Answer
put d name k offset bytes = on_idle_block d name k (slot_put k offset bytes)

-- a block away
unfoldable pub free : Desk → List ℕ → ℕ → Granted Answer
free d name k = on_idle_block d name k (slot_free k)

-- a block cut, or longer by zeros
unfoldable pub extend : Desk → List ℕ → ℕ → ℕ → Granted Answer
extend d name k n = on_idle_block d name k (slot_extend (free_pages d) k n)

-- zeros put into a block, or bytes taken out
unfoldable pub mid : Desk → List ℕ → ℕ → ℕ → ℤ → Granted Answer
mid d name k offset by = on_idle_block d name k (slot_mid (free_pages d) k offset by)

-- ---- the C heap

-- a block claimed
unfoldable pub claim : Desk → List ℕ → ℕ → Granted Answer
claim d name n = do
  t ← named name d
  p ← slot_claim (free_pages d) n t.slot
  Ok (with_slot t.handle p.0 d, reply.Block p.1)

-- a block released
unfoldable pub release : Desk → List ℕ → ℕ → Granted Answer
release d name address = do
  t ← named name d
  _ ← idle_buffer address t
  s ← slot_release address t.slot
  Ok (with_slot t.handle s d, reply.Done)

-- a block with delta bytes more
unfoldable pub resize : Desk → List ℕ → ℕ → ℤ → Granted Answer
resize d name address delta = do
  t ← named name d
  _ ← idle_buffer address t
  p ← slot_resize (free_pages d) address delta t.slot
  Ok (with_slot t.handle p.0 d, reply.Block p.1)

-- whether flex blocks give way
unfoldable pub budge : Desk → List ℕ → Bool → Granted Answer
budge d name on = do
  t ← named name d
  Ok (with_slot t.handle (slot_set_budge on t.slot).0 d, reply.WasBudging (slot_set_budge on t.slot).1)

-- ---- areas

-- the bytes that an area keeps at least: area 5 keeps the scrap file
abbrev pub least_length : ℕ → Desk → ℕ
least_length k d = if k == scrap_area then file_length d.scrap else 0

-- whether an area of n bytes would lose more than it can
abbrev pub shrinks_below : ℕ → ℕ → ℤ → Bool
shrinks_below least n (pos by) = false
shrinks_below least n (negsuc by) = nat_lt n (least + whole_pages (negsuc by))

-- the pages of an area that has so many and keeps so many bytes at least, after the change
unfoldable pub pages_after : ℕ → ℕ → ℕ → ℤ → Granted ℕ
pages_after free least pages delta =
    let n : ℕ = page_size * pages in do
      refuse_if (shrinks_below least n delta) ExcessiveShrink
      refuse_if (lacks_pages free (changed_length n delta - n)) NoRoom
      Ok (changed_length n delta / page_size)

-- the module area longer or shorter by whole pages
unfoldable pub change_module : Desk → ℤ → Granted Answer
change_module d delta = do
  c ← module_change (free_pages d) delta d.post.heap
  Ok (with_module c.0 d, reply.Moved c.1)

-- areas 0 and 2 to 5 are pages only
unfoldable pub change_pages : Desk → ℕ → ℤ → Granted Answer
change_pages d k delta = do
  n ← pages_after (free_pages d) (least_length k d) (slice_index d.areas k) delta
  Ok (record d { areas = slice_set d.areas k n }, reply.Moved (whole_pages delta))

-- whether a made area has the number
abbrev pub is_numbered : ℕ → Made → Bool
is_numbered k m = m.number == k

-- the made area with so many pages, where it has the number
abbrev pub with_pages : ℕ → ℕ → Made → Made
with_pages k n m = if is_numbered k m then record m { pages = n } else m

-- a made area longer or shorter by whole pages
unfoldable pub change_made : Desk → ℕ → ℤ → Granted Answer
change_made d k delta = do
  m ← found_or (find (is_numbered k) d.made) NoArea
  n ← pages_after (free_pages d) 0 m.pages delta
  refuse_if (nat_lt m.most n) TooBig
  Ok (record d { made = map (with_pages k n) d.made }, reply.Moved (whole_pages delta))

-- an area longer or shorter by whole pages
abbrev pub change_area : Desk → ℕ → ℤ → Granted Answer
change_area d k delta =
    if k == module_area then change_module d delta
    else if nat_lt k (length d.areas) then change_pages d k delta
    else change_made d k delta

-- an area of no page, and of at most so many
unfoldable pub make : Desk → ℕ → Granted Answer
make d most = do
  refuse_if (nat_le most_made (length d.made)) TooManyAreas
  refuse_if (nat_lt last_made d.next_area) NoNumbers
  Ok (
    record d { made = d.made ++ record { number = d.next_area; most = most; pages = 0 } ∷ []; next_area = d.next_area + 1 },
    reply.Made d.next_area,
  )

-- a made area away, its pages free
unfoldable pub remove : Desk → ℕ → Granted Answer
remove d k = do
  _ ← found_or (find (is_numbered k) d.made) NoArea
  Ok (record d { made = filter (λ other. not (is_numbered k other)) d.made }, reply.Done)

-- ---- the module area's blocks

-- the block at the address, which holds no message; addresses below the module area are no block's
unfoldable pub own_block : ℕ → Desk → Granted (Split Segment)
own_block address d = do
  b ← found_or (block_at (address - module_start) d.post.heap) NotABlock
  refuse_if (post_is_message (address - module_start) d.post) NotYours
  Ok b

-- a block claimed
unfoldable pub rma_claim : Desk → ℕ → Granted Answer
rma_claim d n = do
  c ← module_claim (free_pages d) n d.post.heap
  Ok (with_module c.0 d, reply.Block (module_start + c.1))

-- a block freed
unfoldable pub rma_free : Desk → ℕ → Granted Answer
rma_free d address = do
  _ ← own_block address d
  h ← module_free (address - module_start) d.post.heap
  Ok (with_module h d, reply.Done)

-- a block with delta bytes more
unfoldable pub rma_resize : Desk → ℕ → ℤ → Granted Answer
rma_resize d address delta = do
  _ ← own_block address d
  c ← module_resize (free_pages d) (address - module_start) delta d.post.heap
  Ok (with_module c.0 d, reply.Block (module_start + c.1))

-- ---- messages

-- a DataSave with the block's size; its record is open from then on
unfoldable pub save : Desk → List ℕ → ℕ → List ℕ → List ℕ → Granted Answer
save d name k to leaf = do
  t ← named name d
  b ← idle_block k t
  refuse_if (is_full is_open t.sending) Busy
  r ← found_or (find (has_name to) d.tasks) NoTask
  sent ← send_letter (save_letter t.handle r.handle (length b.here.bytes) leaf) d
  refuse_if (is_raw t.manner) WrongManner
  Ok (with_sending t.handle (sender.sending_offered (next_ref d) r.handle k) sent, reply.Sent (next_ref d))

-- the desk after a letter of a task of the manner; one with code of its own may answer a DataLoad by any
abbrev pub after_letter : Manner → Desk → Desk
after_letter manner sent = if is_raw manner then after_answer sent else sent

-- the last message once more, with another ref
unfoldable pub repeat : Desk → List ℕ → Granted Answer
repeat d name = do
  t ← named name d
  last ← found_or t.last_sent NothingSent
  sent ← send_letter (record last.0 { from = t.handle }) d
  Ok (after_letter t.manner sent, reply.Sent (next_ref d))

-- the message as it was taken, and what was done
abbrev pub event : Parcel → Handled → Answer
event m after = (after.0, reply.Event m.code (action_of m.message.body) m.message.my_ref m.message.your_ref after.1)

-- the message that was taken is handled, as the task reads it
unfoldable pub poll_taken : Desk → Task → Option Parcel → Answer
poll_taken d t None = (d, reply.NoEvent)
poll_taken d t (Some m) = event (as_read m) (received d t (as_read m))

-- the message that the task holds bounces, and the next one is taken and handled
unfoldable pub poll : Desk → List ℕ → Granted Answer
poll d name = do
  t ← named name d
  let after = post_poll t.handle d.post in
      Ok (poll_taken (with_delivered after.0 d) t after.1)

-- the buffer of a transfer goes, where there is one
abbrev pub with_released : ℕ → Option Taking → Desk → Desk
with_released h None d = d
with_released h (Some f) d = with_task h (λ t. record t { slot = without_buffer f.buffer t.slot }) d

-- a transfer that comes in is given up
unfoldable pub cancel_in : Desk → List ℕ → Option ℕ → Granted Answer
cancel_in d name id = do
  t ← named name d
  records ← receiver.cancel_taking id t.taking
  Ok (with_taking t.handle (λ _. records) (with_released t.handle (receiver.released_by id t.taking) d), reply.Done)

-- a transfer that goes out is given up
unfoldable pub cancel_out : Desk → List ℕ → Option ℕ → Granted Answer
cancel_out d name id = do
  t ← named name d
  records ← sender.cancel_sending id t.sending
  Ok (with_sending t.handle (λ _. records) d, reply.Done)

-- ---- one command

-- what a command changes and answers, or why it is refused
abbrev pub change : Desk → Command → Granted Answer
change d (command.Task name buffer manner) = start_task d name buffer manner
change d (command.Kill name) = kill d name
change d (command.Alloc name k n) = alloc d name k n
change d (command.Load name k file) = load d name k file
change d (command.Put name k offset bytes) = put d name k offset bytes
change d (command.Free name k) = free d name k
change d (command.Extend name k n) = extend d name k n
change d (command.Mid name k offset by) = mid d name k offset by
change d (command.Claim name n) = claim d name n
change d (command.Release name address) = release d name address
change d (command.Resize name address delta) = resize d name address delta
change d (command.Budge name on) = budge d name on
change d (command.Save name k to leaf) = save d name k to leaf
change d (command.Poll name) = poll d name
change d (command.CancelIn name id) = cancel_in d name id
change d (command.CancelOut name id) = cancel_out d name id
change d (command.Repeat name) = repeat d name
change d (command.Area k delta) = change_area d k delta
change d (command.Make most) = make d most
change d (command.Remove k) = remove d k
change d (command.RmaClaim n) = rma_claim d n
change d (command.RmaFree address) = rma_free d address
change d (command.RmaResize address delta) = rma_resize d address delta
change d (command.Raw c) = raw_change d c
change d (command.Ask q) = asked d q >>= λ told. Ok (d, reply.Answered told.0)

-- one command: a refusal leaves the desk as it was
abbrev pub step : Desk → Command → Answer
step d c = or_else (change d c) (λ refusal. (d, reply.Refused refusal))

-- whether a reply says that the command was refused
abbrev pub is_refused : Reply → Bool
is_refused (reply.Refused refusal) = true
is_refused said = false
