-- For each command the conditions under which it is refused, in the one order: questions of the desk before it.
-- Read RefusalOrder and RefusalRooms first. d is the desk, t a task, k an anchor or the number of an area, n and m are
-- sizes. No step of Commands is named here: each row tells a refusal, and a test of the desk. `-` of naturals stops at
-- 0: an address below a heap becomes 0 there, where no block is.
use Rattle.std.specs.Prelude.{◌≡◌, ℕ, ℤ, ◌+◌, ◌-◌, Bool, true, false, not, ◌&&◌, ◌||◌, nat_lt, nat_le, ◌==◌, List, [], ◌∷◌, ◌++◌, length, filter, find, unwrap_or, Option, Some, None, is_some, is_none}
use Rattle.std.specs.List.{list_any}
use Rattle.rh_defs.specs.Forms.{last_made}
use Rattle.rh_defs.specs.declared.refusal.Refusal.{Refusal}
use Rattle.rh_defs.specs.declared.refusal.Refusal.TheVariants.{NameInUse, NoName, TooManyTasks, NoHandles, NoFile, NoBlock, AnchorInUse, NotABlock, NotYours, Busy, NotOpen, NothingSent, BadRange, BadSize, ExcessiveShrink, NoTask, NoRefs, QueueFull, NoBudge, NoRoom, NoArea, TooManyAreas, NoNumbers, TooBig, WrongManner, BadRef}
use Rattle.rh_defs.specs.declared.command.Command.{Command}
use Rattle.rh_defs.specs.declared.command.Command.TheVariants as command
use Rattle.rh_defs.specs.declared.raw_command.RawCommand.{RawCommand}
use Rattle.rh_defs.specs.declared.raw_command.RawCommand.TheVariants as raw
use Rattle.rh_defs.specs.declared.question.Question.{Question}
use Rattle.rh_defs.specs.declared.question.Question.TheVariants as question
use Rattle.rh_defs.specs.declared.message.Letter.{Letter}
use Rattle.rh_defs.specs.declared.transfer.Outgoing.{Outgoing}
use Rattle.rh_defs.specs.declared.transfer.Outgoing.TheVariants as outgoing
use Rattle.rh_defs.specs.declared.transfer.Incoming.{Incoming}
use Rattle.rh_defs.specs.declared.transfer.Incoming.TheVariants as incoming
use Rattle.rh_defs.specs.Pieces.{Split, moved}
use Rattle.rh_defs.specs.Files.{file_bytes}
use Rattle.rh_defs.specs.Heap.{Segment, block_at, bytes_of}
use Rattle.rh_defs.specs.Slot.{Flex, block_of, flex_weight, heap_block_at, holds, is_used, slot_length, taken_out}
use Rattle.rh_defs.specs.AnyMessage.{body_of}
use Rattle.rh_defs.specs.Letters.{scrap_name}
use Rattle.rh_defs.specs.Places.{overlap}
use Rattle.rh_defs.specs.OutgoingEvents.{scrap_shortage, wider}
use Rattle.rh_defs.specs.RawCommands.{file_held}
use Rattle.rh_defs.specs.RawTasks.{is_open_to, is_raw}
use Rattle.rh_defs.specs.Records.{is_meant, is_open, most_records}
use Rattle.rh_defs.specs.Post.{held_by, live_count, most_messages, post_is_message}
use Rattle.rh_defs.specs.Desk.{Desk, Made, Scrap, Task, free_pages, has_name, is_busy_block, is_busy_buffer, most_tasks, next_ref, task_at, module_start, most_made}
use Rattle.rh_defs.specs.Commands.{step}
use Rattle.rh_laws.specs.RefusalOrder.{RefusalRow, are_in_order, first_refusal, refusal_in}
use Rattle.rh_laws.specs.RefusalRooms.{file_message_size, gained_pages, kept_length, lacks, area_length_of, lost_bytes, made_area, message_size, outgrows, short_for, short_of}

-- whether there is one, and it passes the test
abbrev pub there_is : {A : Type 0} → (A → Bool) → Option A → Bool
there_is test None = false
there_is test (Some x) = test x

-- ---- tasks

-- the live task with the name
abbrev pub task_of : List ℕ → Desk → Option Task
task_of name d = find (has_name name) d.tasks

-- no live task has the name
abbrev pub no_name : List ℕ → Desk → RefusalRow
no_name name d = (NoName, is_none (task_of name d))

-- whether the live task with the name passes the test
abbrev pub of_task : List ℕ → Desk → (Task → Bool) → Bool
of_task name d test = there_is test (task_of name d)

-- ---- flex blocks

-- the task has no block at the anchor
abbrev pub no_block : ℕ → List ℕ → Desk → RefusalRow
no_block k name d = (NoBlock, of_task name d λ t. is_none (block_of k t.slot))

-- a transfer uses the block
abbrev pub busy_block : ℕ → List ℕ → Desk → RefusalRow
busy_block k name d = (Busy, of_task name d λ t. is_busy_block k t)

-- whether the task's block at the anchor, of so many bytes, passes the test
abbrev pub of_block : ℕ → List ℕ → Desk → (Task → ℕ → Bool) → Bool
of_block k name d test =
    of_task name d λ t. there_is (λ (b : Split Flex). test t (length b.here.bytes)) (block_of k t.slot)

-- the slot with one more block of n bytes takes more pages than it has and are free
abbrev pub lacks_room_with : ℕ → Task → Desk → Bool
lacks_room_with n t d = outgrows (slot_length t.slot + flex_weight n) t.slot d

-- the slot with m bytes in the place of a block of n bytes takes more pages than it has and are free
abbrev pub lacks_room_from : ℕ → ℕ → Task → Desk → Bool
lacks_room_from n m t d = outgrows ((slot_length t.slot + flex_weight m) - flex_weight n) t.slot d

-- ---- blocks of the C heap

-- no block of the task's C heap has the address
abbrev pub not_a_block : ℕ → List ℕ → Desk → RefusalRow
not_a_block address name d = (NotABlock, of_task name d λ t. is_none (heap_block_at address t.slot))

-- the block is a transfer's buffer
abbrev pub busy_buffer : ℕ → List ℕ → Desk → RefusalRow
busy_buffer address name d = (Busy, of_task name d λ t. is_busy_buffer address t)

-- whether the block of the task's C heap at the address passes the test
abbrev pub of_buffer : ℕ → List ℕ → Desk → (Task → Split Segment → Bool) → Bool
of_buffer address name d test = of_task name d λ t. there_is (test t) (heap_block_at address t.slot)

-- the C heap is short of so many bytes, and budging is off
abbrev pub must_not_grow : ℕ → Task → Bool
must_not_grow shortage t = nat_lt 0 shortage && not t.slot.budging

-- the bytes of the block at the cut, with delta more
abbrev pub bytes_with : ℤ → Split Segment → ℕ
bytes_with delta b = moved (length (bytes_of b.here)) delta

-- ---- blocks of the module area

-- the block of the module area at the address; addresses below the area are no block's
abbrev pub module_block : ℕ → Desk → Option (Split Segment)
module_block address d = block_at (address - module_start) d.post.heap

-- no block of the module area has the address
abbrev pub not_a_module_block : ℕ → Desk → RefusalRow
not_a_module_block address d = (NotABlock, is_none (module_block address d))

-- the block holds a message
abbrev pub not_yours : ℕ → Desk → RefusalRow
not_yours address d = (NotYours, post_is_message (address - module_start) d.post)

-- ---- messages

-- the module area would grow by more pages than are free for a block of n bytes
abbrev pub lacks_module_room : ℕ → Desk → Bool
lacks_module_room n d = lacks (short_of n d.post.heap) d

-- a message can't be sent: its recipient isn't live, all refs were given, as many messages are live as can be, or there is no room
abbrev pub send_rows : Bool → Bool → Desk → List RefusalRow
send_rows is_gone lacks_room d =
    (NoTask, is_gone)
    ∷ (NoRefs, nat_lt 4294967295 (next_ref d))
    ∷ (QueueFull, nat_le most_messages (live_count d.post))
    ∷ (NoRoom, lacks_room)
    ∷ []

-- whether the last message that the task sent passes the test
abbrev pub of_last : List ℕ → Desk → (Letter → Bool) → Bool
of_last name d test = of_task name d λ t. there_is (λ last. test last.0) t.last_sent

-- whether an open transfer that goes out is meant by a cancel
abbrev pub is_open_one : Option ℕ → Outgoing → Bool
is_open_one id (outgoing.Open x) = is_meant id x.id
is_open_one id _ = false

-- whether a transfer that comes in, fetches or asks, and is meant by a cancel
abbrev pub is_coming_one : Option ℕ → Incoming → Bool
is_coming_one id (incoming.Fetching f) = is_meant id f.id
is_coming_one id (incoming.Asking q) = is_meant id q.id
is_coming_one id _ = false

-- ---- tasks with code of their own

-- the task has no code of its own, or has
abbrev pub not_raw : List ℕ → Desk → RefusalRow
not_raw name d = (WrongManner, of_task name d λ t. not (is_raw t.manner))

abbrev pub too_raw : List ℕ → Desk → RefusalRow
too_raw name d = (WrongManner, of_task name d λ t. is_raw t.manner)

-- the ref was never given
abbrev pub bad_ref : ℕ → Desk → RefusalRow
bad_ref ref d = (BadRef, nat_le (next_ref d) ref)

-- n bytes at an address don't lie whole in one block of the task
abbrev pub not_held : ℕ → ℕ → List ℕ → Desk → RefusalRow
not_held x n name d = (BadRange, of_task name d λ t. not (holds x n t.slot))

-- n bytes can't be moved from x to y: they aren't the task's, they are in their own way, or the live task at the other
-- end didn't open their place
abbrev pub is_shut_to : Task → ℕ → ℕ → ℕ → ℕ → Desk → Bool
is_shut_to t x h y n d =
    not (holds x n t.slot) || (t.handle == h && overlap x n y n)
    || there_is (λ (r : Task). not (is_open_to t.handle (held_by t.handle d.post.seats) r y n)) (task_at h d)

-- the scrap file, where the task holds its DataLoad
abbrev pub own_file : Task → Desk → Option Scrap
own_file t d = file_held (held_by t.handle d.post.seats) d.scrap

-- a scrap file of n bytes and its DataLoad take more pages than are free: area 5 grows first
abbrev pub lacks_file_room : ℕ → Desk → Bool
lacks_file_room n d =
    nat_lt (free_pages d) (scrap_shortage n d)
    || lacks_module_room (file_message_size (length scrap_name)) (wider (scrap_shortage n d) d)

-- ---- the table

-- a question's conditions
abbrev pub asked_rows : Desk → Question → List RefusalRow
asked_rows d (question.Show name k) = no_name name d ∷ no_block k name d ∷ []
asked_rows d (question.Read name x n) = no_name name d ∷ not_held x n name d ∷ []
asked_rows d (question.Blocks name) = no_name name d ∷ []
asked_rows d (question.Heap name) = no_name name d ∷ []
asked_rows d (question.Status name) = no_name name d ∷ []
asked_rows d question.Areas = []

-- those of a command of a task with code of its own
abbrev pub raw_rows : Desk → RawCommand → List RefusalRow
raw_rows d (raw.Send name recorded h ref a bytes) =
    no_name name d
    ∷ send_rows (is_none (task_at h d)) (lacks_module_room (message_size (body_of a (unwrap_or bytes []))) d) d
    ++ not_raw name d ∷ bad_ref ref d ∷ []
raw_rows d (raw.Write name x bytes) = no_name name d ∷ not_held x (length bytes) name d ∷ not_raw name d ∷ []
raw_rows d (raw.Transfer name x h y n) =
    no_name name d
    ∷ (BadRange, of_task name d λ t. is_shut_to t x h y n d)
    ∷ (NoTask, is_none (task_at h d))
    ∷ not_raw name d
    ∷ []
raw_rows d (raw.Ack name) = no_name name d ∷ not_raw name d ∷ []
raw_rows d (raw.Spool name k h ref) =
    no_name name d
    ∷ no_block k name d
    ∷ (Busy, is_some d.scrap)
    ∷ send_rows (is_none (task_at h d)) (of_block k name d λ t n. lacks_file_room n d) d
    ++ not_raw name d ∷ bad_ref ref d ∷ []
raw_rows d (raw.Scrap name k) =
    no_name name d
    ∷ (NoFile, of_task name d λ t. is_none (own_file t d))
    ∷ (AnchorInUse, of_task name d λ t. is_used k t.slot)
    ∷ (NoRoom, of_task name d λ t. there_is (λ (file : Scrap). lacks_room_with (length file.bytes) t d) (own_file t d))
    ∷ not_raw name d
    ∷ []

-- a command's conditions
abbrev pub conditions : Desk → Command → List RefusalRow
conditions d (command.Task name buffer manner) =
    (NameInUse, is_some (task_of name d))
    ∷ (TooManyTasks, nat_le most_tasks (length d.tasks))
    ∷ (NoHandles, nat_lt 4294967295 d.next_handle)
    ∷ (NoRoom, nat_lt (free_pages d) 1)
    ∷ []
conditions d (command.Kill name) = no_name name d ∷ []
conditions d (command.Alloc name k n) =
    no_name name d
    ∷ (AnchorInUse, of_task name d λ t. is_used k t.slot)
    ∷ (NoRoom, of_task name d λ t. lacks_room_with n t d)
    ∷ []
conditions d (command.Load name k file) =
    no_name name d
    ∷ (NoFile, is_none (file_bytes file d.files))
    ∷ (AnchorInUse, of_task name d λ t. is_used k t.slot)
    ∷ (NoRoom, of_task name d λ t. there_is (λ bytes. lacks_room_with (length bytes) t d) (file_bytes file d.files))
    ∷ []
conditions d (command.Put name k offset bytes) =
    no_name name d
    ∷ no_block k name d
    ∷ busy_block k name d
    ∷ (BadRange, of_block k name d λ t n. nat_lt n (offset + length bytes))
    ∷ []
conditions d (command.Free name k) = no_name name d ∷ no_block k name d ∷ busy_block k name d ∷ []
conditions d (command.Extend name k size) =
    no_name name d
    ∷ no_block k name d
    ∷ busy_block k name d
    ∷ (NoRoom, of_block k name d λ t n. lacks_room_from n size t d)
    ∷ []
conditions d (command.Mid name k offset by) =
    no_name name d
    ∷ no_block k name d
    ∷ busy_block k name d
    ∷ (BadRange, of_block k name d λ t n. nat_lt n offset || nat_lt offset (taken_out by))
    ∷ (NoRoom, of_block k name d λ t n. lacks_room_from n (moved n by) t d)
    ∷ []
conditions d (command.Claim name n) =
    no_name name d
    ∷ (BadSize, n == 0)
    ∷ (NoBudge, of_task name d λ t. must_not_grow (short_of n t.slot.heap) t)
    ∷ (NoRoom, of_task name d λ t. lacks (short_of n t.slot.heap) d)
    ∷ []
conditions d (command.Release name address) =
    no_name name d ∷ not_a_block address name d ∷ busy_buffer address name d ∷ []
conditions d (command.Resize name address delta) =
    no_name name d
    ∷ not_a_block address name d
    ∷ busy_buffer address name d
    ∷ (BadSize, of_buffer address name d λ t b. bytes_with delta b == 0)
    ∷ (NoBudge, of_buffer address name d λ t b. must_not_grow (short_for (bytes_with delta b) b t.slot.heap) t)
    ∷ (NoRoom, of_buffer address name d λ t b. lacks (short_for (bytes_with delta b) b t.slot.heap) d)
    ∷ []
conditions d (command.Budge name on) = no_name name d ∷ []
conditions d (command.Save name k to leaf) =
    no_name name d
    ∷ no_block k name d
    ∷ (Busy, of_task name d λ t. is_busy_block k t || nat_le most_records (length (filter is_open t.sending)))
    ∷ send_rows (is_none (task_of to d)) (lacks_module_room (file_message_size (length leaf)) d) d ++ too_raw name d ∷ []
conditions d (command.Poll name) = no_name name d ∷ []
conditions d (command.CancelIn name id) =
    no_name name d ∷ (NotOpen, of_task name d λ t. not (list_any (is_coming_one id) t.taking)) ∷ []
conditions d (command.CancelOut name id) =
    no_name name d ∷ (NotOpen, of_task name d λ t. not (list_any (is_open_one id) t.sending)) ∷ []
conditions d (command.Repeat name) =
    no_name name d
    ∷ (NothingSent, of_task name d λ t. is_none t.last_sent)
    ∷ send_rows (of_last name d λ l. is_none (task_at l.to d))
    (of_last name d λ l. lacks_module_room (message_size l.body) d) d
conditions d (command.Area k delta) =
    (ExcessiveShrink, there_is (λ n. nat_lt n (kept_length k d + lost_bytes delta)) (area_length_of k d))
    ∷ (NoRoom, is_some (area_length_of k d) && nat_lt (free_pages d) (gained_pages delta))
    ∷ (NoArea, is_none (area_length_of k d))
    ∷ (TooBig, there_is (λ (m : Made). nat_lt m.most (m.pages + gained_pages delta)) (made_area k d))
    ∷ []
conditions d (command.Make most) =
    (TooManyAreas, nat_le most_made (length d.made)) ∷ (NoNumbers, nat_lt last_made d.next_area) ∷ []
conditions d (command.Remove k) = (NoArea, is_none (made_area k d)) ∷ []
conditions d (command.RmaClaim n) = (BadSize, n == 0) ∷ (NoRoom, lacks_module_room n d) ∷ []
conditions d (command.RmaFree address) = not_a_module_block address d ∷ not_yours address d ∷ []
conditions d (command.RmaResize address delta) =
    not_a_module_block address d
    ∷ not_yours address d
    ∷ (BadSize, there_is (λ b. bytes_with delta b == 0) (module_block address d))
    ∷ (NoRoom, there_is (λ b. lacks (short_for (bytes_with delta b) b d.post.heap) d) (module_block address d))
    ∷ []
conditions d (command.Ask q) = asked_rows d q
conditions d (command.Raw c) = raw_rows d c

-- ---- the law

-- the conditions of each command stand in the one order, each refusal at most once
abbrev pub StandInOrder : Type 0
StandInOrder = (d : Desk) (c : Command) → are_in_order 0 (conditions d c) ≡ true

-- a command that is refused leaves the desk as it was, whatever the desk
abbrev pub ChangesNothing : Type 0
ChangesNothing = (d : Desk) (c : Command) (r : Refusal) → refusal_in (step d c).1 ≡ Some r → (step d c).0 ≡ d

-- each command on the desk is refused by the first of its conditions that holds, and granted where none holds
abbrev pub AnswersByTable : Desk → Type 0
AnswersByTable d = (c : Command) → refusal_in (step d c).1 ≡ first_refusal (conditions d c)
