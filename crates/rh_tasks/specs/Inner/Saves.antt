-- What a task may offer, and to whom.
use Rattle.std.specs.Prelude.{◌≡◌, ℕ, List, length, Ok}
use Rattle.rh_defs.specs.declared.refusal.Refusal.TheVariants.{Busy}
use Rattle.rh_defs.specs.Chain.{Granted, ◌>>=◌, ◌>>◌, refuse_if}
use Rattle.rh_defs.specs.Desk.{Task, idle_block}
use Rattle.rh_defs.specs.Memory.{Memory}
use Rattle.rh_defs.specs.Records.{is_open, is_full}
use Rattle.rh_tasks.specs.declared.saving.SourceBlock.{SourceBlock}
use Rattle.rh_tasks.specs.declared.seat.Seat.{Seat}
use Rattle.rh_tasks.specs.View.{task_of}
use Rattle.rh_tasks.specs.Finding.{FoundSeat}

-- the size of a block that a task may offer
abbrev pub source_block : ℕ → Task → Granted ℕ
source_block k t = idle_block k t >>= (λ b. refuse_if (is_full is_open t.sending) Busy >> Ok (length b.here.bytes))

-- the task with the name may offer its block, which has so many bytes
pub record CanOffer (k : ℕ) (m : Memory) (name : List ℕ) (seats : List Seat) (source : SourceBlock) : Type 0 where
  pub seat : Seat
  pub found : FoundSeat name seats source.place seat
  pub given : source_block k (task_of m seat) ≡ Ok source.size

-- the handle of the task with the name
pub record HasHandle (name : List ℕ) (seats : List Seat) (handle : ℕ) : Type 0 where
  pub place : ℕ
  pub seat : Seat
  pub found : FoundSeat name seats place seat
  pub is : seat.handle ≡ handle
