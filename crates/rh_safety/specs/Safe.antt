-- No run loses a byte, or gives a wrong one. Read Offered, Held and *after* (Runs of rh_defs) first.
-- d is the desk before the commands, id a transfer: the ref of its DataSave. h is the handle of the task that receives
-- or sends it, k its document's anchor, n a count, t the task after the commands.
use Rattle.std.specs.Prelude.{◌≡◌, ◌≤◌, ℕ, true, false, not, is_some, List, length, Some}
use Rattle.std.specs.List.{Contains}
use Rattle.std.specs.Option.{option_map}
use Rattle.std.specs.Io.{StartsWith}
use Rattle.rh_defs.specs.declared.sizes.TheConstants.{MIN_PAGES}
use Rattle.rh_defs.specs.declared.command.Command.{Command}
use Rattle.rh_defs.specs.declared.transfer.Taking.{Taking}
use Rattle.rh_defs.specs.declared.transfer.Outgoing.TheVariants as outgoing
use Rattle.rh_defs.specs.declared.transfer.Incoming.TheVariants as incoming
use Rattle.rh_defs.specs.Forms.{most_pages}
use Rattle.rh_defs.specs.Range.{all_in_range}
use Rattle.rh_defs.specs.Files.{FileList}
use Rattle.rh_defs.specs.Desk.{Desk, Task, task_at}
use Rattle.rh_defs.specs.Runs.{start, start_with, after}
use Rattle.rh_defs.specs.Laws.{IsStart}
use Rattle.rh_defs.specs.Script.{commands_in, ended, lines_desk}
use Rattle.rh_safety.specs.Offered.{offered}
use Rattle.rh_safety.specs.Held.{held}
use Rattle.rh_safety.specs.RawIds.{has_raw, is_raw_id}

-- After the commands: what a task holds of a transfer was offered, and the file begins with it; where the task's record
-- says Done, it is the whole file; where a sender's record says Done, its count is the file's length.
pub record IsSafe (d : Desk) (commands : List Command) (id h : ℕ) : Type 0 where
  pub prefix :
      (got : List ℕ) → held d commands id h ≡ Some got →
      (file : List ℕ) × (offered d commands id ≡ Some file) × StartsWith file got
  pub whole :
      (got : List ℕ) (k n : ℕ) (t : Task) → held d commands id h ≡ Some got → task_at h (after d commands) ≡ Some t →
      Contains t.taking (incoming.Done id k n) → offered d commands id ≡ Some got
  pub counted :
      (n : ℕ) (t : Task) → task_at h (after d commands) ≡ Some t → Contains t.sending (outgoing.Done id n) →
      option_map length (offered d commands id) ≡ Some n

-- each transfer is safe after the commands, for each task, but those that tasks with code of their own began
abbrev pub AreSafe : Desk → List Command → Type 0
AreSafe d commands = (id h : ℕ) → is_raw_id d commands id ≡ false → IsSafe d commands id h

-- each transfer is safe after the commands, for each task
abbrev pub AreAllSafe : Desk → List Command → Type 0
AreAllSafe d commands = (id h : ℕ) → IsSafe d commands id h

-- each transfer that was offered is safe after the commands, for each task
abbrev pub AreOffersSafe : Desk → List Command → Type 0
AreOffersSafe d commands = (id h : ℕ) (file : List ℕ) → offered d commands id ≡ Some file → IsSafe d commands id h

-- After the commands: a record that fetches has the flag of a sender with code of its own just where nobody offered its
-- transfer; what drains was offered.
pub record AreFlagged (d : Desk) (commands : List Command) : Type 0 where
  pub fetches :
      (h : ℕ) (t : Task) (f : Taking) → task_at h (after d commands) ≡ Some t →
      Contains t.taking (incoming.Fetching f) → is_some (offered d commands f.id) ≡ not f.raw
  pub drains :
      (h : ℕ) (t : Task) (f : Taking) → task_at h (after d commands) ≡ Some t →
      Contains t.taking (incoming.Draining f) → is_some (offered d commands f.id) ≡ true

-- each transfer is safe after each list of commands in range, from each start
abbrev pub AlwaysSafe : Type 0
AlwaysSafe =
    (pool handle ref : ℕ) (files : FileList) (commands : List Command) → IsStart pool handle ref →
    all_in_range commands ≡ true → AreSafe (start_with pool files handle ref) commands

-- The complete lines of a script, from the desk on: the desk after them is that after the commands that they spell, and
-- that is safe. Where none of these starts a task with code of its own, all transfers are.
pub record IsSafeScript (d : Desk) (script : List ℕ) : Type 0 where
  pub desk : lines_desk d (ended script) ≡ after d (commands_in (ended script))
  pub safe : AreSafe d (commands_in (ended script))
  pub all : has_raw (commands_in (ended script)) ≡ false → AreAllSafe d (commands_in (ended script))

-- so it is of each script over a fresh desk
abbrev pub ScriptsAreSafe : Type 0
ScriptsAreSafe =
    (pages : ℕ) (files : FileList) (script : List ℕ) → MIN_PAGES ≤ pages → pages ≤ most_pages →
    IsSafeScript (start pages files) script
