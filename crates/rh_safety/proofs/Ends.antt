-- Letters, and the records of the two ends of a transfer.
use Rattle.std.specs.Prelude.{◌≡◌, ℕ, ◌+◌, Bool, true, false, ◌++◌, nat_le, List, [], ◌∷◌, length, Option, Some, None, if◌then◌else◌, ◌==◌, ◌⊎◌}
-- the records of the desk
pub use Rattle.rh_defs.specs.declared.transfer.Sending.{Sending}
pub use Rattle.rh_defs.specs.declared.transfer.Taking.{Taking}
pub use Rattle.rh_defs.specs.declared.transfer.Asked.{Asked}
pub use Rattle.rh_defs.specs.declared.transfer.Outgoing.{Outgoing as Out}
pub use Rattle.rh_defs.specs.declared.transfer.Outgoing.TheVariants.{Open, Done as Out_done, Failed as Out_failed}
pub use Rattle.rh_defs.specs.declared.transfer.Incoming.{Incoming as In}
pub use Rattle.rh_defs.specs.declared.transfer.Incoming.TheVariants.{Fetching, Draining, Asking, Done as In_done}
pub use Rattle.rh_defs.specs.declared.transfer.Incoming.TheVariants.{Failed as In_failed}
pub use Rattle.rh_defs.specs.Records.{out_id, in_id, is_open, is_going, dropped as drop_first, with_id}
pub use Rattle.rh_defs.specs.Records.{open_of as find_open, active_of as find_active, asking_of as find_asking}
pub use Rattle.rh_defs.specs.Records.{is_source as source_at, is_document as document_at, is_buffer_of as buffer_at}
pub use Rattle.rh_defs.specs.Records.{is_meant}
pub use Rattle.rh_defs.specs.Receiver.{is_wanted as is_meant_in, cancelled}
pub use Rattle.rh_defs.specs.declared.message.EventCode.{EventCode as Code}
pub use Rattle.rh_defs.specs.declared.message.EventCode.TheVariants.{User as Plain, Recorded, Acknowledge as Returned}
pub use Rattle.rh_defs.specs.declared.message.Action.{Action as Kind}
pub use Rattle.rh_defs.specs.declared.message.Action.TheVariants.{DataSave, DataSaveAck, DataLoad, DataLoadAck}
pub use Rattle.rh_defs.specs.declared.message.Action.TheVariants.{RamFetch, RamTransmit}
pub use Rattle.rh_safety.specs.Offered.{at_place as put, Offers}
pub use Rattle.rh_safety.specs.Held.{in_anchor, is_document_of, Edits}
pub use Rattle.std.specs.Prelude.{find as first}
pub use Rattle.std.specs.List.{list_any as any}

-- a member of a list
abbrev pub Has : {A : Type 0} → A → List A → Type 0
Has x [] = ⊥
Has x (y ∷ ys) = (y ≡ x) ⊎ Has x ys

-- the list begins with another one
abbrev pub IsPrefixOf : List ℕ → List ℕ → Type 0
IsPrefixOf xs ys = (rest : List ℕ) × (xs ++ rest ≡ ys)

-- what stays the same when a message bounces
pub record Letter : Type 0 where
  pub from : ℕ
  pub me : ℕ
  pub answers : ℕ
  pub kind : Kind
  pub address : ℕ
  pub amount : ℕ

-- a letter on its way, under an event code
pub record Message : Type 0 where
  pub code : Code
  pub to : ℕ
  pub letter : Letter

-- Lists of records

-- how many members of a list pass a test
abbrev pub how_many : {A : Type 0} → (A → Bool) → List A → ℕ
how_many p [] = 0
how_many p (x ∷ xs) = if p x then how_many p xs + 1 else how_many p xs

-- one more record: on a full list the first one that has ended goes; as the lists are in the order of ids, it has the
-- least id
abbrev pub one_more : {A : Type 0} → ℕ → (A → Bool) → List A → A → List A
one_more most keep xs v = (if nat_le most (length xs) then drop_first keep xs else xs) ++ v ∷ []

-- the document is still being made
abbrev pub is_growing : In → Bool
is_growing (Fetching t) = true
is_growing (Draining t) = false
is_growing (Asking q) = true
is_growing (In_done i a n) = false
is_growing (In_failed i a n) = false

-- the record fetches or drains
abbrev pub Active : List In → Taking → Type 0
Active ws t = Has (Fetching t) ws ⊎ Has (Draining t) ws

-- each element stands so to each one after it
abbrev pub Pairwise : {A : Type 0} → (A → A → Type 0) → List A → Type 0
Pairwise R [] = Unit {0}
Pairwise {A} R (x ∷ xs) = ((y : A) → Has y xs → R x y) × Pairwise R xs

-- The queue

-- the first message for a handle
abbrev pub first_for : ℕ → List Message → Option Message
first_for h [] = None
first_for h (m ∷ ms) = if m.to == h then Some m else first_for h ms

-- the queue without that message
abbrev pub without_first : ℕ → List Message → List Message
without_first h [] = []
without_first h (m ∷ ms) = if m.to == h then ms else m ∷ without_first h ms
