-- What the records of a live task's transfers say, and that what they name is there. Read Buffers and Offered first.
-- d is a desk, t a task, h its handle, k an anchor, n a number of bytes, x an open transfer that goes out, f and g are
-- transfers that have a buffer, q one that waits for a file.
use Rattle.std.specs.Prelude.{◌≡◌, ℕ, ◌≤◌, true, List, [], length, Some, ◌⊎◌}
use Rattle.std.specs.List.{Contains}
use Rattle.rh_defs.specs.declared.transfer.Sending.{Sending}
use Rattle.rh_defs.specs.declared.transfer.Taking.{Taking}
use Rattle.rh_defs.specs.declared.transfer.Asked.{Asked}
use Rattle.rh_defs.specs.declared.transfer.Outgoing.TheVariants as outgoing
use Rattle.rh_defs.specs.declared.transfer.Incoming.TheVariants as incoming
use Rattle.rh_defs.specs.Records.{in_id, most_records, out_id}
use Rattle.rh_defs.specs.Desk.{Desk, Task, is_busy_block, is_busy_buffer, next_ref, task_at}
use Rattle.rh_defs.specs.RawTasks.{is_raw}
use Rattle.rh_defs.specs.Laws.{Rise}
use Rattle.rh_safety.specs.Buffers.{bytes_of_buffer}
use Rattle.rh_safety.specs.Offered.{bytes_of_block}

-- a record that holds a buffer: of a transfer that fetches or drains
abbrev pub HoldsOne : Task → Taking → Type 0
HoldsOne t f = Contains t.taking (incoming.Fetching f) ⊎ Contains t.taking (incoming.Draining f)

-- the anchor has a block of n bytes at least
pub record HasFlexBlock (t : Task) (k n : ℕ) : Type 0 where
  pub bytes : List ℕ
  pub there : bytes_of_block t.slot k ≡ Some bytes
  pub size : n ≤ length bytes

-- the address has a block of the C heap, of n bytes at least
pub record HasBuffer (t : Task) (address n : ℕ) : Type 0 where
  pub bytes : List ℕ
  pub there : bytes_of_buffer t.slot address ≡ Some bytes
  pub size : n ≤ length bytes

-- the anchor has a block of just n bytes
pub record Measures (t : Task) (k n : ℕ) : Type 0 where
  pub bytes : List ℕ
  pub there : bytes_of_block t.slot k ≡ Some bytes
  pub size : length bytes ≡ n

-- The task's records stand in order of id, at most eight each way, and their ids are refs that were given. Each busy block
-- is there. An open record counts at most what its source has; a document that grows has as many bytes as its record
-- counts; a buffer belongs to one record, and has room for as many bytes as the task asks for at once.
pub record IsRecorded (d : Desk) (t : Task) : Type 0 where
  pub few_out : length t.sending ≤ most_records
  pub few_in : length t.taking ≤ most_records
  pub ids_out : Rise out_id 0 (next_ref d) t.sending
  pub ids_in : Rise in_id 0 (next_ref d) t.taking
  pub busy_blocks : (k : ℕ) → is_busy_block k t ≡ true → HasFlexBlock t k 0
  pub busy_buffers : (address : ℕ) → is_busy_buffer address t ≡ true → HasBuffer t address 0
  pub sources : (x : Sending) → Contains t.sending (outgoing.Open x) → HasFlexBlock t x.anchor x.count
  pub asking : (q : Asked) → Contains t.taking (incoming.Asking q) → Measures t q.anchor 0
  pub fetching : (f : Taking) → Contains t.taking (incoming.Fetching f) → Measures t f.anchor f.count
  pub rooms : (f : Taking) → HoldsOne t f → HasBuffer t f.buffer t.buffer
  pub owners : (f g : Taking) → HoldsOne t f → HoldsOne t g → f.buffer ≡ g.buffer → f.id ≡ g.id

-- a live task with code of its own has no records
abbrev pub HasNoRecords : Desk → Type 0
HasNoRecords d =
    (h : ℕ) (t : Task) → task_at h d ≡ Some t → is_raw t.manner ≡ true → (t.sending ≡ []) × (t.taking ≡ [])

-- so it is of each live task
abbrev pub AreRecorded : Desk → Type 0
AreRecorded d = (h : ℕ) (t : Task) → task_at h d ≡ Some t → IsRecorded d t
