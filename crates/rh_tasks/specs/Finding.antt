-- Seats and made areas that were found.
use Rattle.std.specs.Prelude.{◌≡◌, ℕ, false, List, Some, IsOk, find, map}
use Rattle.std.specs.List.{position, list_any}
use Rattle.std.proofs.Math.ListN.{get_or}
use Rattle.rh_defs.specs.declared.refusal.Refusal.TheVariants.{NoName}
use Rattle.rh_defs.specs.Chain.{Granted, ◌>>=◌, found_or}
use Rattle.rh_defs.specs.Desk.{Task, has_name}
use Rattle.rh_defs.specs.Memory.{Memory}
use Rattle.rh_defs.specs.Records.{is_buffer_of}
use Rattle.rh_slot.specs.declared.slot.Slot.{Slot}
use Rattle.rh_tasks.specs.declared.seat.Seat.{Seat}
use Rattle.rh_tasks.specs.View.{is_named, task_of}

-- the seat is the first with the name
pub record FoundSeat (name : List ℕ) (seats : List Seat) (i : ℕ) (s : Seat) : Type 0 where
  pub at : position (is_named name) seats ≡ Some i
  pub is : get_or seats i s ≡ s

-- the slot is that of the seat with the name
pub record Owns (name : List ℕ) (seats : List Seat) (slot : Slot) : Type 0 where
  pub place : ℕ
  pub seat : Seat
  pub found : FoundSeat name seats place seat
  pub slot_is : seat.slot ≡ slot

-- what a look at the named task gives
abbrev pub looked : {B : Type 0} → (Task → Granted B) → Memory → List ℕ → List Seat → Granted B
looked look m name seats = found_or (find (has_name name) (map (task_of m) seats)) NoName >>= look

-- the slot is that of the seat with the name, and the look at its task is granted
pub record OwnsWith {B : Type 0} (look : Task → Granted B) (m : Memory) (name : List ℕ) (seats : List Seat) (slot : Slot) : Type 0 where
  pub owns : Owns name seats slot
  pub granted : IsOk (look (task_of m owns.seat))

-- the slot is that of the seat with the name, and no transfer of its task has its buffer at the address
pub record OwnsIdle (address : ℕ) (name : List ℕ) (seats : List Seat) (slot : Slot) : Type 0 where
  pub owns : Owns name seats slot
  pub idle : list_any (is_buffer_of address) owns.seat.taking ≡ false
