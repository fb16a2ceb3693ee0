-- What a task received of a file, as it stands in the bytes of the store.
use Rattle.std.specs.Prelude.{◌≡◌, ℕ, ◌+◌, ◌*◌, ◌<◌, ◌≤◌, ◌==◌, true, false, if◌then◌else◌, List, [], ◌∷◌, ◌++◌, length, find, Option, Some, None}
use Rattle.std.specs.Io.{StartsWith}
use Rattle.rh_defs.specs.Bytes.{word, part}
use Rattle.rh_defs.specs.Desk.{Desk, Task, task_at}
use Rattle.rh_defs.specs.Files.{FileList}
use Rattle.rh_defs.specs.Laws.{IsStart}
use Rattle.rh_defs.specs.Order.{IsReordered}
use Rattle.rh_defs.specs.Range.{in_range, all_in_range}
use Rattle.rh_defs.specs.Records.{in_id}
use Rattle.rh_defs.specs.Runs.{start_with, after}
use Rattle.rh_defs.specs.Slot.{anchor_count, slot_start}
use Rattle.rh_defs.specs.declared.command.Command.{Command}
use Rattle.rh_defs.specs.declared.transfer.Incoming.{Incoming}
use Rattle.rh_safety.specs.Counts.{counted_in, is_done}
use Rattle.rh_safety.specs.Held.{held, in_anchor}
use Rattle.rh_safety.specs.Offered.{offered}
use Rattle.rh_safety.specs.RawIds.{has_raw, is_raw_id}
use Rattle.rh_tasks.specs.Answer.{RunsOn}
use Rattle.rh_tasks.specs.Shown.{Shown}

-- ---- in a slot's bytes

-- the bytes of the slot of the task with the handle, where each task's stand at its place in the list
abbrev pub received_slot_bytes : ℕ → List Task → List (List ℕ) → Option (List ℕ)
received_slot_bytes h (t ∷ tasks) (b ∷ slots) = if t.handle == h then Some b else received_slot_bytes h tasks slots
received_slot_bytes h _ _ = None

-- In a slot's bytes the anchor's word has the address behind two header words, which have the address of the anchor's
-- word and the number of the bytes; the bytes themselves stand at that address, whole within the slot.
pub record AnchorLeadsTo (slot : List ℕ) (k : ℕ) (bytes : List ℕ) : Type 0 where
  pub anchor : k < anchor_count
  pub place : ℕ
  pub address : word slot (4 * k) ≡ slot_start + place + 8
  pub owner : word slot place ≡ slot_start + 4 * k
  pub size : word slot (place + 4) ≡ length bytes
  pub stands : part slot (place + 8) (length bytes) ≡ bytes
  pub within : place + 8 + length bytes ≤ length slot

-- ---- along a run

-- What is shown is the desk after the commands, each in range, from a first desk, but for the order of messages to
-- different tasks.
pub record HasRun (d : Desk) (commands : List Command) (s : Shown) : Type 0 where
  pub pool : ℕ
  pub handle : ℕ
  pub ref : ℕ
  pub files : FileList
  pub begins : IsStart pool handle ref
  pub first : d ≡ start_with pool files handle ref
  pub ranged : all_in_range commands ≡ true
  pub desk : IsReordered (after d commands) s.desk

-- The live task of the handle has a record of the transfer, whose anchor leads to these bytes in its slot in the store.
-- They are as many as the record counts, and a file that begins with them was offered: they are all of it where the
-- record says Done.
pub record HasReceived (d : Desk) (commands : List Command) (s : Shown) (id h : ℕ) (got : List ℕ) : Type 0 where
  pub task : Task
  pub live : task_at h s.desk ≡ Some task
  pub taking : Incoming
  pub recorded : find (λ w. in_id w == id) task.taking ≡ Some taking
  pub slot : List ℕ
  pub in_store : received_slot_bytes h s.desk.tasks s.slots ≡ Some slot
  pub document : AnchorLeadsTo slot (in_anchor taking) got
  pub counted : length got ≡ counted_in taking
  pub file : List ℕ
  pub was_offered : offered d commands id ≡ Some file
  pub front : StartsWith file got
  pub whole : is_done taking ≡ true → got ≡ file

-- so it is, after whatever run, of all that a task holds of a transfer, unless a task with code of its own began that
abbrev pub HoldsReceived : Shown → Type 0
HoldsReceived s =
    (d : Desk) (commands : List Command) (id h : ℕ) (got : List ℕ) → HasRun d commands s →
    is_raw_id d commands id ≡ false → held d commands id h ≡ Some got → HasReceived d commands s id h got

-- so it is of each transfer that was offered, whatever such tasks do
abbrev pub HoldsOffered : Shown → Type 0
HoldsOffered s =
    (d : Desk) (commands : List Command) (id h : ℕ) (got file : List ℕ) → HasRun d commands s →
    offered d commands id ≡ Some file → held d commands id h ≡ Some got → HasReceived d commands s id h got

-- so it is of every transfer, where no command starts such a task
abbrev pub HoldsAllReceived : Shown → Type 0
HoldsAllReceived s =
    (d : Desk) (commands : List Command) (id h : ℕ) (got : List ℕ) → HasRun d commands s →
    has_raw commands ≡ false → held d commands id h ≡ Some got → HasReceived d commands s id h got

-- a run begins at a first desk
abbrev pub RunsBegin : Type 0
RunsBegin =
    (pool handle ref : ℕ) (files : FileList) (s : Shown) → IsStart pool handle ref →
    s.desk ≡ start_with pool files handle ref → HasRun (start_with pool files handle ref) [] s

-- a command in range takes a run on by itself
abbrev pub RunsGoOn : Type 0
RunsGoOn =
    (d : Desk) (commands : List Command) (c : Command) (old new : Shown) → in_range c ≡ true →
    RunsOn c old.desk new.desk → HasRun d commands old → HasRun d (commands ++ c ∷ []) new
