-- The records of a task's transfers: lists in the order made, which is the order of ids.
-- An id is the ref of the DataSave. x is an open transfer that goes out, f one that comes in and has a buffer, q one
-- that waits for a file, r a record of any state, k an anchor. Done and Failed have ended; lasts tests that a record
-- hasn't.
use Rattle.std.specs.Prelude.{ℕ, Bool, true, false, nat_le, ◌==◌, if◌then◌else◌, List, [], ◌∷◌, ◌++◌, length, filter, map, Option, Some, None}
use Rattle.rh_defs.specs.declared.transfer.Sending.{Sending}
use Rattle.rh_defs.specs.declared.transfer.Taking.{Taking}
use Rattle.rh_defs.specs.declared.transfer.Asked.{Asked}
use Rattle.rh_defs.specs.declared.transfer.Outgoing.{Outgoing}
use Rattle.rh_defs.specs.declared.transfer.Outgoing.TheVariants as outgoing
use Rattle.rh_defs.specs.declared.transfer.Incoming.{Incoming}
use Rattle.rh_defs.specs.declared.transfer.Incoming.TheVariants as incoming
use Rattle.rh_defs.specs.declared.sizes.TheConstants.{MOST_RECORDS}

-- a task has at most so many records each way
abbrev pub most_records : ℕ
most_records = MOST_RECORDS

-- the id of a record of a transfer that goes out
abbrev pub out_id : Outgoing → ℕ
out_id (outgoing.Open x) = x.id
out_id (outgoing.Done id count) = id
out_id (outgoing.Failed id count) = id

-- the id of a record of a transfer that comes in
abbrev pub in_id : Incoming → ℕ
in_id (incoming.Fetching f) = f.id
in_id (incoming.Draining f) = f.id
in_id (incoming.Asking q) = q.id
in_id (incoming.Done id anchor count) = id
in_id (incoming.Failed id anchor count) = id

-- whether a transfer that goes out hasn't ended
abbrev pub is_open : Outgoing → Bool
is_open (outgoing.Open x) = true
is_open _ = false

-- whether a transfer that comes in hasn't ended
abbrev pub is_going : Incoming → Bool
is_going (incoming.Fetching f) = true
is_going (incoming.Draining f) = true
is_going (incoming.Asking q) = true
is_going _ = false

-- ---- what is busy

-- whether the anchor's block is the source of an open transfer
abbrev pub is_source : ℕ → Outgoing → Bool
is_source k (outgoing.Open x) = x.anchor == k
is_source k _ = false

-- whether the anchor's block is a document that grows
abbrev pub is_document : ℕ → Incoming → Bool
is_document k (incoming.Fetching f) = f.anchor == k
is_document k (incoming.Asking q) = q.anchor == k
is_document k _ = false

-- whether the block at the address is a transfer's buffer
abbrev pub is_buffer_of : ℕ → Incoming → Bool
is_buffer_of address (incoming.Fetching f) = f.buffer == address
is_buffer_of address (incoming.Draining f) = f.buffer == address
is_buffer_of address _ = false

-- ---- lists of records

-- as many records as a task may have pass the test
abbrev pub is_full : {A : Type 0} → (A → Bool) → List A → Bool
is_full test records = nat_le most_records (length (filter test records))

-- without the first record that has ended
abbrev pub dropped : {A : Type 0} → (A → Bool) → List A → List A
dropped lasts [] = []
dropped lasts (r ∷ records) = if lasts r then r ∷ dropped lasts records else records

-- one more record: on a full list the first one that has ended goes
abbrev pub one_more : {A : Type 0} → (A → Bool) → A → List A → List A
one_more lasts new records = (if nat_le most_records (length records) then dropped lasts records else records) ++ new ∷ []

-- the record of the id written anew
abbrev pub with_id : {A : Type 0} → (A → ℕ) → ℕ → A → List A → List A
with_id id_of id new records = map (λ r. if id_of r == id then new else r) records

-- the first open record that passes the test
abbrev pub open_of : (Sending → Bool) → List Outgoing → Option Sending
open_of test [] = None
open_of test (outgoing.Open x ∷ records) = if test x then Some x else open_of test records
open_of test (_ ∷ records) = open_of test records

-- the first record with a buffer that passes the test
abbrev pub active_of : (Taking → Bool) → List Incoming → Option Incoming
active_of test [] = None
active_of test (incoming.Fetching f ∷ records) = if test f then Some (incoming.Fetching f) else active_of test records
active_of test (incoming.Draining f ∷ records) = if test f then Some (incoming.Draining f) else active_of test records
active_of test (_ ∷ records) = active_of test records

-- the first record that waits for a file and passes the test
abbrev pub asking_of : (Asked → Bool) → List Incoming → Option Asked
asking_of test [] = None
asking_of test (incoming.Asking q ∷ records) = if test q then Some q else asking_of test records
asking_of test (_ ∷ records) = asking_of test records

-- whether a cancel means the id: no id stands for any, and the first record has the least one
abbrev pub is_meant : Option ℕ → ℕ → Bool
is_meant None id = true
is_meant (Some wanted) id = id == wanted
