-- Whose the bytes are that a task shows: it put, wrote or loaded them, or they stood in a block when that was offered or
-- spooled to it, or where they were moved from when they were moved to it. Read Offered of rh_safety first. may is a map
-- from handles to bytes, d a desk, k an anchor, h a handle, t a task, x an address, n a number of bytes, r a reply. *may_show_next* follows one command by its reply, *may_show_from* all commands.
use Rattle.std.specs.Prelude.{[], find, List, map, Ok, Option, Some, true, ℕ, ◌++◌, ◌∷◌, ◌≡◌, ◌≤◌}
use Rattle.std.specs.List.{AllByRecursion, Contains}
use Rattle.std.specs.Option.{option_map}
use Rattle.rh_defs.specs.declared.command.Command.{Command}
use Rattle.rh_defs.specs.declared.command.Command.TheVariants as command
use Rattle.rh_defs.specs.declared.raw_command.RawCommand.TheVariants as raw
use Rattle.rh_defs.specs.declared.question.Numbers.{Numbers}
use Rattle.rh_defs.specs.declared.question.Question.TheVariants as question
use Rattle.rh_defs.specs.declared.reply.Reply.{Reply}
use Rattle.rh_defs.specs.declared.reply.Reply.TheVariants as reply
use Rattle.rh_defs.specs.Heap.{bytes_of, Segment}
use Rattle.rh_defs.specs.Slot.{Flex}
use Rattle.rh_defs.specs.Places.{bytes_held}
use Rattle.rh_defs.specs.Files.{file_bytes, FileList}
use Rattle.rh_defs.specs.Range.{all_in_range}
use Rattle.rh_defs.specs.Desk.{Desk, has_name, Scrap, Task, task_at}
use Rattle.rh_defs.specs.declared.message.EventCode.TheVariants.{Recorded}
use Rattle.rh_defs.specs.Messages.{Parcel}
use Rattle.rh_defs.specs.Questions.{asked, Bytes}
use Rattle.rh_defs.specs.Commands.{step}
use Rattle.rh_defs.specs.Runs.{after, start_with}
use Rattle.rh_defs.specs.Laws.{IsStart}
use Rattle.rh_safety.specs.Offered.{at_place, source_of}
use Rattle.rh_laws.specs.Renaming.{has_byte, renamed_command, renamed_files}

-- ---- what a task may show, told by each reply of a run

-- by handle, the bytes that a task may show
abbrev pub MayShow : Type 0
MayShow = ℕ → List ℕ

-- the task may show these bytes too
abbrev pub shows_too : MayShow → Option Task → Option (List ℕ) → MayShow
shows_too may (Some t) (Some bytes) = at_place may t.handle (may t.handle ++ bytes)
shows_too may _ _ = may

-- a put or a write that was done: its task may show its bytes
abbrev pub put_shows : MayShow → Desk → List ℕ → List ℕ → Reply → MayShow
put_shows may d name bytes reply.Done = shows_too may (find (has_name name) d.tasks) (Some bytes)
put_shows may d name bytes _ = may

-- a load that was done: its task may show the file's bytes
abbrev pub load_shows : MayShow → Desk → List ℕ → List ℕ → Reply → MayShow
load_shows may d name file (reply.Block address) =
    shows_too may (find (has_name name) d.tasks) (file_bytes file d.files)
load_shows may d name file _ = may

-- a save that was accepted: the task that it is to may show the bytes that the block has then
abbrev pub save_shows : MayShow → Desk → List ℕ → ℕ → List ℕ → Reply → MayShow
save_shows may d name k to (reply.Sent ref) =
    shows_too may (find (has_name to) d.tasks) (source_of (find (has_name name) d.tasks) k)
save_shows may d name k to _ = may

-- n bytes at an address of a task's slot
abbrev pub range_of : Option Task → ℕ → ℕ → Option (List ℕ)
range_of task x n = option_map (λ (t : Task). bytes_held x n t.slot) task

-- a transfer that was done: the task that it is to may show the bytes that it is of
abbrev pub transfer_shows : MayShow → Desk → List ℕ → ℕ → ℕ → ℕ → Reply → MayShow
transfer_shows may d name x h n reply.Done =
    shows_too may (task_at h d) (range_of (find (has_name name) d.tasks) x n)
transfer_shows may d name x h n _ = may

-- a spool that was accepted: the task that it is to may show the bytes that the block has then
abbrev pub spool_shows : MayShow → Desk → List ℕ → ℕ → ℕ → Reply → MayShow
spool_shows may d name k h (reply.Sent ref) = shows_too may (task_at h d) (source_of (find (has_name name) d.tasks) k)
spool_shows may d name k h _ = may

-- what each task may show after one more command, by the command's reply
abbrev pub may_show_next : MayShow → Desk → Command → Reply → MayShow
may_show_next may d (command.Put name k offset bytes) r = put_shows may d name bytes r
may_show_next may d (command.Load name k file) r = load_shows may d name file r
may_show_next may d (command.Save name k to leaf) r = save_shows may d name k to r
may_show_next may d (command.Raw (raw.Write name x bytes)) r = put_shows may d name bytes r
may_show_next may d (command.Raw (raw.Transfer name x h y n)) r = transfer_shows may d name x h n r
may_show_next may d (command.Raw (raw.Spool name k h ref)) r = spool_shows may d name k h r
may_show_next may d _ r = may

-- what each task may show after commands
abbrev pub may_show_from : MayShow → Desk → List Command → MayShow
may_show_from may d [] = may
may_show_from may d (c ∷ commands) = may_show_from (may_show_next may d c (step d c).1) (step d c).0 commands

-- what each task may show after a run of the commands from the desk: at first 0 alone
abbrev pub may_show : Desk → List Command → MayShow
may_show d commands = may_show_from (λ h. 0 ∷ []) d commands

-- ---- what tasks have, and show

-- each of the bytes is one of the list
abbrev pub AreAmong : List ℕ → List ℕ → Type 0
AreAmong list bytes = AllByRecursion (λ b. has_byte b list ≡ true) bytes

-- A live task's flex blocks and the blocks of its C heap have no bytes but those that it may show, and `show` answers
-- no others. The scrap file has none but those of the task that its queued DataLoad is for. A task that begins later
-- may show 0 alone.
pub record ShowsOwn (d : Desk) (may : MayShow) : Type 0 where
  pub blocks :
      (h : ℕ) (t : Task) → task_at h d ≡ Some t → AllByRecursion (λ (b : Flex). AreAmong (may h) b.bytes) t.slot.blocks
  pub heap :
      (h : ℕ) (t : Task) → task_at h d ≡ Some t →
      AllByRecursion (λ (g : Segment). AreAmong (may h) (bytes_of g)) t.slot.heap.segments
  pub shown :
      (name : List ℕ) (k : ℕ) (t : Task) (size : Numbers) (bytes : List ℕ) → find (has_name name) d.tasks ≡ Some t →
      asked d (question.Show name k) ≡ Ok (size, Bytes bytes) → AreAmong (may t.handle) bytes
  pub file :
      (file : Scrap) (p : Parcel) → d.scrap ≡ Some file → Contains d.post.queued p → p.code ≡ Recorded →
      p.message.my_ref ≡ file.load → AreAmong (may p.to) file.bytes
  pub new : (h : ℕ) → d.next_handle ≤ h → may h ≡ 0 ∷ []

-- so it is after each list of commands in range, from each start
abbrev pub AlwaysShowsOwn : Type 0
AlwaysShowsOwn =
    (pool handle ref : ℕ) (files : FileList) (commands : List Command) → IsStart pool handle ref →
    all_in_range commands ≡ true →
    ShowsOwn (after (start_with pool files handle ref) commands) (may_show (start_with pool files handle ref) commands)

-- ---- one byte told from another of the same value

-- the bytes of some of the marks
pub record AreOfMarks (f : ℕ → ℕ) (marks bytes : List ℕ) : Type 0 where
  pub own : List ℕ
  pub bytes_are : bytes ≡ map f own
  pub among : AreAmong marks own

-- each block of a live task has bytes of marks that the task may show
pub record ShowsOwnMarks (f : ℕ → ℕ) (d : Desk) (may : MayShow) : Type 0 where
  pub blocks :
      (h : ℕ) (t : Task) → task_at h d ≡ Some t →
      AllByRecursion (λ (b : Flex). AreOfMarks f (may h) b.bytes) t.slot.blocks
  pub heap :
      (h : ℕ) (t : Task) → task_at h d ≡ Some t →
      AllByRecursion (λ (g : Segment). AreOfMarks f (may h) (bytes_of g)) t.slot.heap.segments

-- Let puts and files have marks in place of bytes, which are any numbers, and let f give the byte of each mark, and 0
-- for 0. The run with the bytes leaves each block with bytes of marks that its task may show in the run with the marks.
abbrev pub AlwaysShowsOwnMarks : Type 0
AlwaysShowsOwnMarks =
    (f : ℕ → ℕ) → f 0 ≡ 0 → (pool handle ref : ℕ) (files : FileList) (commands : List Command) →
    IsStart pool handle ref → all_in_range commands ≡ true →
    ShowsOwnMarks f (after (start_with pool (renamed_files f files) handle ref) (map (renamed_command f) commands))
    (may_show (start_with pool files handle ref) commands)
