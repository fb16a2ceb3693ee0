-- What polls alone leave of transfers once nothing is queued or held: no record that comes in goes on, and what is
-- still open was only offered, by a task that answers no fetch. Read Progress first.
-- d is a desk, h a handle, t its task, x an open transfer that goes out, w a record that comes in.
use Rattle.std.specs.Prelude.{◌≡◌, ℕ, ◌≤◌, true, false, List, length, Some}
use Rattle.std.specs.List.{AllByRecursion, Contains}
use Rattle.rh_defs.specs.declared.transfer.Incoming.{Incoming}
use Rattle.rh_defs.specs.declared.transfer.Outgoing.TheVariants as outgoing
use Rattle.rh_defs.specs.declared.transfer.Sending.{Sending}
use Rattle.rh_defs.specs.Range.{all_in_range}
use Rattle.rh_defs.specs.Records.{is_going}
use Rattle.rh_defs.specs.Desk.{Desk, Task, task_at}
use Rattle.rh_defs.specs.Runs.{after}
use Rattle.rh_defs.specs.Transfer.{answers_none}
use Rattle.rh_safety.specs.Played.{AfterPlayed}
use Rattle.rh_laws.specs.Progress.{NamesAll, rounds_of, work}

-- an open transfer of a task that answers no fetch: its DataSave is its last message, and it counts no byte
pub record IsOffered (t : Task) (x : Sending) : Type 0 where
  pub manner : answers_none t.manner ≡ true
  pub last : x.last ≡ x.id
  pub count : x.count ≡ 0

-- no record of a live task fetches, drains or asks, and each open one is so
pub record IsSettled (d : Desk) : Type 0 where
  pub comes : (h : ℕ) (t : Task) (w : Incoming) → task_at h d ≡ Some t → Contains t.taking w → is_going w ≡ false
  pub goes : (h : ℕ) (t : Task) (x : Sending) → task_at h d ≡ Some t → Contains t.sending (outgoing.Open x) → IsOffered t x

-- after as many rounds as there is work, each of which polls every live task, the desk is so
abbrev pub Settles : Desk → Type 0
Settles d =
    (rounds : List (List (List ℕ))) → all_in_range (rounds_of rounds) ≡ true → AllByRecursion (NamesAll d) rounds →
    work d ≤ length rounds → IsSettled (after d (rounds_of rounds))

-- so it is of each desk that a run reaches in which no command starts a task with code of its own
abbrev pub AlwaysSettles : Type 0
AlwaysSettles = AfterPlayed Settles
