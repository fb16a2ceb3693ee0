-- What Rest and LiveEnds say beside tasks with code of their own: it is so of each record whose other end the desk plays.
-- Read Rest, LiveEnds, Cancels and RawHandles first.
-- theirs says which ids are of transfers that such tasks began, raw which handles are theirs. d is a desk, h a handle, t its
-- task, w a record that comes in, f one that has a buffer, x an open one that goes out.
use Rattle.std.specs.Prelude.{◌≡◌, ℕ, ◌≤◌, true, false, List, length, Some}
use Rattle.std.specs.List.{AllByRecursion, Contains}
use Rattle.rh_defs.specs.declared.command.Command.{Command}
use Rattle.rh_defs.specs.declared.transfer.Incoming.{Incoming}
use Rattle.rh_defs.specs.declared.transfer.Incoming.TheVariants as incoming
use Rattle.rh_defs.specs.declared.transfer.Outgoing.TheVariants as outgoing
use Rattle.rh_defs.specs.declared.transfer.Sending.{Sending}
use Rattle.rh_defs.specs.declared.transfer.Taking.{Taking}
use Rattle.rh_defs.specs.Range.{all_in_range}
use Rattle.rh_defs.specs.Records.{in_id, is_going}
use Rattle.rh_defs.specs.Desk.{Desk, Task, task_at}
use Rattle.rh_defs.specs.Runs.{after}
use Rattle.rh_safety.specs.Counts.{AlwaysCounts}
use Rattle.rh_safety.specs.RawIds.{Gave, is_raw_id}
use Rattle.rh_laws.specs.Cancels.{CancelsEnd}
use Rattle.rh_laws.specs.LiveEnds.{ComesAlive, GoesAlive}
use Rattle.rh_laws.specs.Progress.{NamesAll, rounds_of, work}
use Rattle.rh_laws.specs.RawHandles.{RawHandles, is_raw_handle}
use Rattle.rh_laws.specs.Rest.{IsOffered}

-- ---- at rest

-- No record of a live task fetches, drains or asks but of a transfer of theirs. None drains, and one that fetches has the
-- flag, so that a cancel ends it at once. Each open one was only offered, or goes out to one of them; a cancel ends it.
pub record IsSettledBeside (theirs : Gave) (raw : RawHandles) (d : Desk) : Type 0 where
  pub comes : (h : ℕ) (t : Task) (w : Incoming) → task_at h d ≡ Some t → Contains t.taking w → theirs (in_id w) ≡ false → is_going w ≡ false
  pub drains : (h : ℕ) (t : Task) (f : Taking) → task_at h d ≡ Some t → Contains t.taking (incoming.Draining f) → ⊥
  pub fetches : (h : ℕ) (t : Task) (f : Taking) → task_at h d ≡ Some t → Contains t.taking (incoming.Fetching f) → f.raw ≡ true
  pub goes : (h : ℕ) (t : Task) (x : Sending) → task_at h d ≡ Some t → Contains t.sending (outgoing.Open x) → raw x.recipient ≡ false → IsOffered t x
  pub cancels : CancelsEnd d

-- after commands and as many rounds as there is work, each of which polls every live task, the desk is so
abbrev pub SettlesBeside : Desk → List Command → Type 0
SettlesBeside start commands =
    (rounds : List (List (List ℕ))) → all_in_range (rounds_of rounds) ≡ true → AllByRecursion (NamesAll (after start commands)) rounds →
    work (after start commands) ≤ length rounds →
    IsSettledBeside (is_raw_id start commands) (is_raw_handle start commands) (after (after start commands) (rounds_of rounds))

-- so it is of each list of commands
abbrev pub AlwaysSettlesBeside : Type 0
AlwaysSettlesBeside = AlwaysCounts SettlesBeside

-- ---- before that

-- each record of a live task waits for a message of its own or for an answer, where its transfer isn't theirs and it doesn't
-- go out to one of them
pub record HasLiveEndsBeside (theirs : Gave) (raw : RawHandles) (d : Desk) : Type 0 where
  pub comes : (h : ℕ) (t : Task) (w : Incoming) → task_at h d ≡ Some t → Contains t.taking w → theirs (in_id w) ≡ false → ComesAlive d h t w
  pub goes : (h : ℕ) (t : Task) (x : Sending) → task_at h d ≡ Some t → Contains t.sending (outgoing.Open x) → raw x.recipient ≡ false →
      GoesAlive d h t (outgoing.Open x)

-- so it is after each list of commands
abbrev pub AlwaysHasLiveEndsBeside : Type 0
AlwaysHasLiveEndsBeside =
    AlwaysCounts (λ start commands. HasLiveEndsBeside (is_raw_id start commands) (is_raw_handle start commands) (after start commands))
