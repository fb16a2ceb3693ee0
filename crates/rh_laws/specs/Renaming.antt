-- A desk, its files and its commands with each byte renamed by one function. Read Commands of rh_defs first.
-- f is the function, which leaves 0 as it is; d is a desk, c a command, q a question, b a flex block, h a heap, s a
-- slot, t a task, l what an answer lists.
use Rattle.std.specs.Prelude.{◌≡◌, ℕ, ◌||◌, ◌==◌, Bool, true, false, List, map, Ok, Err}
use Rattle.std.specs.List.{list_any, AllByRecursion}
use Rattle.std.specs.Option.{option_map}
use Rattle.rh_defs.specs.declared.command.Command.{Command}
use Rattle.rh_defs.specs.declared.command.Command.TheVariants as command
use Rattle.rh_defs.specs.declared.raw_command.RawCommand.TheVariants as raw
use Rattle.rh_defs.specs.declared.question.Question.{Question}
use Rattle.rh_defs.specs.declared.question.Question.TheVariants as question
use Rattle.rh_defs.specs.declared.question.Numbers.{Numbers}
use Rattle.rh_defs.specs.Chain.{Granted}
use Rattle.rh_defs.specs.Heap.{Segment, Used, Hole, Heap}
use Rattle.rh_defs.specs.Slot.{Slot, Flex}
use Rattle.rh_defs.specs.Files.{FileList}
use Rattle.rh_defs.specs.Desk.{Desk, Task, Scrap}
use Rattle.rh_defs.specs.Questions.{Listed, Bytes, shown_at, Told, asked}
use Rattle.rh_defs.specs.Commands.{step}
use Rattle.rh_defs.specs.Runs.{start_with, after, replies}

-- ---- renamed

-- a flex block with its bytes renamed
abbrev pub renamed_block : (ℕ → ℕ) → Flex → Flex
renamed_block f b = record b { bytes = map f b.bytes }

-- a segment of a heap with its block's bytes renamed
abbrev pub renamed_segment : (ℕ → ℕ) → Segment → Segment
renamed_segment f (Used bytes) = Used (map f bytes)
renamed_segment f (Hole size) = Hole size

-- a heap with the bytes of its blocks renamed
abbrev pub renamed_heap : (ℕ → ℕ) → Heap → Heap
renamed_heap f h = record h { segments = map (renamed_segment f) h.segments }

-- a slot with the bytes of its C heap and of its flex blocks renamed
abbrev pub renamed_slot : (ℕ → ℕ) → Slot → Slot
renamed_slot f s = record s { heap = renamed_heap f s.heap; blocks = map (renamed_block f) s.blocks }

-- a task with the bytes of its slot renamed
abbrev pub renamed_task : (ℕ → ℕ) → Task → Task
renamed_task f t = record t { slot = renamed_slot f t.slot }

-- the scrap file with its bytes renamed
abbrev pub renamed_scrap : (ℕ → ℕ) → Scrap → Scrap
renamed_scrap f file = record file { bytes = map f file.bytes }

-- files of the same names with their bytes renamed
abbrev pub renamed_files : (ℕ → ℕ) → FileList → FileList
renamed_files f files = map (λ file. (file.0, map f file.1)) files

-- A desk with the bytes of all slots, of the scrap file and of the files renamed. The module area's stay: messages
-- alone have bytes there, and none of these comes from a slot or a file.
abbrev pub renamed : (ℕ → ℕ) → Desk → Desk
renamed f d = record d {
  tasks = map (renamed_task f) d.tasks;
  scrap = option_map (renamed_scrap f) d.scrap;
  files = renamed_files f d.files;
}

-- a command with the bytes that it puts or writes renamed; the data of a message stays, since no block gets it
abbrev pub renamed_command : (ℕ → ℕ) → Command → Command
renamed_command f (command.Put name k offset bytes) = command.Put name k offset (map f bytes)
renamed_command f (command.Raw (raw.Write name x bytes)) = command.Raw (raw.Write name x (map f bytes))
renamed_command f c = c

-- what an answer lists, with the bytes renamed that it shows
abbrev pub renamed_listed : (ℕ → ℕ) → Listed → Listed
renamed_listed f (Bytes bytes) = Bytes (map f bytes)
renamed_listed f l = l

-- a question's answer with the bytes renamed that it shows
abbrev pub renamed_told : (ℕ → ℕ) → Granted Told → Granted Told
renamed_told f (Ok told) = Ok (told.0, renamed_listed f told.1)
renamed_told f (Err refusal) = Err refusal

-- a block's size and the bytes that are shown of it, with these renamed
abbrev pub renamed_piece : (ℕ → ℕ) → Granted (ℕ × List ℕ) → Granted (ℕ × List ℕ)
renamed_piece f (Ok piece) = Ok (piece.0, map f piece.1)
renamed_piece f (Err refusal) = Err refusal

-- ---- what doesn't look at bytes

-- whatever the desk, a command does to the renamed one the same, and its reply is the same
abbrev pub StepsRenamed : Type 0
StepsRenamed =
    (f : ℕ → ℕ) → f 0 ≡ 0 → (d : Desk) (c : Command) →
    step (renamed f d) (renamed_command f c) ≡ (renamed f (step d c).0, (step d c).1)

-- what is asked of the renamed desk has the same answer, but for the bytes that it shows
abbrev pub ShowsRenamed : Type 0
ShowsRenamed = (f : ℕ → ℕ) → f 0 ≡ 0 → (d : Desk) (q : Question) → asked (renamed f d) q ≡ renamed_told f (asked d q)

-- of the renamed desk each piece in which a block is shown has the renamed bytes
abbrev pub PiecesRenamed : Type 0
PiecesRenamed =
    (f : ℕ → ℕ) → f 0 ≡ 0 → (d : Desk) (name : List ℕ) (k offset n : ℕ) →
    shown_at (renamed f d) name k offset n ≡ renamed_piece f (shown_at d name k offset n)

-- a run of renamed commands over renamed files leaves the renamed desk, and its replies are the same
pub record RunsRenamed (f : ℕ → ℕ) (pool handle ref : ℕ) (files : FileList) (commands : List Command) : Type 0 where
  pub desk :
      after (start_with pool (renamed_files f files) handle ref) (map (renamed_command f) commands)
      ≡ renamed f (after (start_with pool files handle ref) commands)
  pub replies :
      replies (start_with pool (renamed_files f files) handle ref) (map (renamed_command f) commands)
      ≡ replies (start_with pool files handle ref) commands

-- so it is of each run
abbrev pub AlwaysRenamed : Type 0
AlwaysRenamed =
    (f : ℕ → ℕ) → f 0 ≡ 0 → (pool handle ref : ℕ) (files : FileList) (commands : List Command) →
    RunsRenamed f pool handle ref files commands

-- ---- where shown bytes come from

-- whether a list of bytes has the byte
abbrev pub has_byte : ℕ → List ℕ → Bool
has_byte b bytes = list_any (λ x. x == b) bytes

-- whether a command puts or writes the byte
abbrev pub puts_byte : ℕ → Command → Bool
puts_byte b (command.Put name k offset bytes) = has_byte b bytes
puts_byte b (command.Raw (raw.Write name x bytes)) = has_byte b bytes
puts_byte b c = false

-- whether a byte is 0, or one that a command puts, or one of a file
abbrev pub is_given : FileList → List Command → ℕ → Bool
is_given files commands b = b == 0 || (list_any (puts_byte b) commands || list_any (λ file. has_byte b file.1) files)

-- what is shown after a run has no byte that wasn't given to it
abbrev pub ShowsGiven : Type 0
ShowsGiven =
    (pool handle ref : ℕ) (files : FileList) (commands : List Command) (name : List ℕ) (k : ℕ) →
    (size : Numbers) (bytes : List ℕ) →
    asked (after (start_with pool files handle ref) commands) (question.Show name k) ≡ Ok (size, Bytes bytes) →
    AllByRecursion (λ b. is_given files commands b ≡ true) bytes
