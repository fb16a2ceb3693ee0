-- The count of a receiver's record, beside what was offered and what is held. Read Held first.
-- d is the desk before the commands, id a transfer, h a handle, t its task, w a record that comes in, got what is held.
use Rattle.std.specs.Prelude.{◌≡◌, ◌≤◌, ℕ, ◌==◌, Bool, true, false, List, length, find, Some}
use Rattle.std.specs.List.{Contains}
use Rattle.rh_defs.specs.declared.command.Command.{Command}
use Rattle.rh_defs.specs.declared.transfer.Incoming.{Incoming}
use Rattle.rh_defs.specs.declared.transfer.Incoming.TheVariants as incoming
use Rattle.rh_defs.specs.Files.{FileList}
use Rattle.rh_defs.specs.Range.{all_in_range}
use Rattle.rh_defs.specs.Records.{in_id}
use Rattle.rh_defs.specs.Desk.{Desk, Task, task_at}
use Rattle.rh_defs.specs.Runs.{start_with, after}
use Rattle.rh_defs.specs.Laws.{IsStart}
use Rattle.rh_safety.specs.Offered.{offered}
use Rattle.rh_safety.specs.RawIds.{is_raw_id}
use Rattle.rh_safety.specs.Held.{held}

-- the bytes that a record counts: none are counted yet where a file is asked for
abbrev pub counted_in : Incoming → ℕ
counted_in (incoming.Fetching f) = f.count
counted_in (incoming.Draining f) = f.count
counted_in (incoming.Asking q) = 0
counted_in (incoming.Done id anchor count) = count
counted_in (incoming.Failed id anchor count) = count

-- whether the record says Done
abbrev pub is_done : Incoming → Bool
is_done (incoming.Done id anchor count) = true
is_done _ = false

-- after the commands, what a task holds of a transfer has as many bytes as its record counts
abbrev pub CountsHeld : Desk → List Command → Type 0
CountsHeld d commands =
    (id h : ℕ) (got : List ℕ) (t : Task) (w : Incoming) → held d commands id h ≡ Some got →
    task_at h (after d commands) ≡ Some t → find (λ r. in_id r == id) t.taking ≡ Some w → length got ≡ counted_in w

-- the record's id was offered a file; its count is no more than the file's length, and just that where it says Done
pub record CountsFile (d : Desk) (commands : List Command) (w : Incoming) : Type 0 where
  pub file : List ℕ
  pub is : offered d commands (in_id w) ≡ Some file
  pub most : counted_in w ≤ length file
  pub all : is_done w ≡ true → counted_in w ≡ length file

-- after the commands, the same of each record of a live task's transfers, whatever came to its document since; but not of
-- those that tasks with code of their own began
abbrev pub CountsOffered : Desk → List Command → Type 0
CountsOffered d commands =
    (h : ℕ) (t : Task) (w : Incoming) → task_at h (after d commands) ≡ Some t → Contains t.taking w →
    is_raw_id d commands (in_id w) ≡ false → CountsFile d commands w

-- of each record
abbrev pub CountsAllOffered : Desk → List Command → Type 0
CountsAllOffered d commands =
    (h : ℕ) (t : Task) (w : Incoming) → task_at h (after d commands) ≡ Some t → Contains t.taking w →
    CountsFile d commands w

-- after each list of commands in range, from each start
abbrev pub AlwaysCounts : (Desk → List Command → Type 0) → Type 0
AlwaysCounts P =
    (pool handle ref : ℕ) (files : FileList) (commands : List Command) → IsStart pool handle ref →
    all_in_range commands ≡ true → P (start_with pool files handle ref) commands
