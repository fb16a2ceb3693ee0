-- Bytes of live blocks that a call reads: no line spells it.
use Rattle.std.specs.Prelude.{◌≡◌, ℕ, List, Option, Some, None, Result, Ok, Err}
use Rattle.std.specs.Option.{option_map}
use Rattle.rh_defs.specs.Chain.{Granted}
use Rattle.rh_defs.specs.Desk.{Desk}
use Rattle.rh_defs.specs.Questions.{shown_at}
use Rattle.rh_tasks.specs.BlockBytes.{block_shown}
use Rattle.rh_tasks.specs.Sights.{module_shown}
use Rattle.vf_desk.specs.declared.desk.VfDesk.{VfDesk}
use Rattle.vf_desk.specs.DeskForms.{anchor_in, name_read}
use Rattle.vf_desk.specs.DeskStatus.{bad_argument, closed_status, refusal_number}
use Rattle.vf_desk.specs.SeenDesk.{IsSeenDesk}

-- ---- what is read

-- of a desk: a block's size, and the bytes that are wanted of it
abbrev pub Reading : Type 0
Reading = Desk → Granted (ℕ × List ℕ)

-- n bytes of a named task's block, from an offset on, where there are a name and an anchor
abbrev pub reading_with : Option (List ℕ) → Option ℕ → ℕ → ℕ → Option Reading
reading_with None anchor offset n = None
reading_with (Some name) anchor offset n = option_map (λ k d. shown_at d name k offset n) anchor

-- n bytes of an anchor's block, where name and anchor are of their forms
abbrev pub anchor_reading : List ℕ → ℕ → ℕ → ℕ → Option Reading
anchor_reading name anchor offset n = reading_with (name_read name) (anchor_in anchor) offset n

-- n bytes of the block at an address of a task's slot
abbrev pub block_reading : List ℕ → ℕ → ℕ → ℕ → Option Reading
block_reading name address offset n = option_map (λ known d. block_shown d known address offset n) (name_read name)

-- n bytes of a block of the module area
abbrev pub module_reading : ℕ → ℕ → ℕ → Option Reading
module_reading address offset n = Some (λ d. module_shown d address offset n)

-- ---- what is told of it

-- size and bytes, or the status of why there are none
abbrev pub Read : Type 0
Read = Result (ℕ × List ℕ) ℕ

abbrev pub read_on : Granted (ℕ × List ℕ) → Read
read_on (Ok p) = Ok p
read_on (Err refusal) = Err (refusal_number refusal)

-- where the desk is open and seen as this one, or closed, and the arguments are of their forms or not
abbrev pub read_by : Option Desk → Option Reading → Read
read_by None reading = Err closed_status
read_by (Some d) None = Err bad_argument
read_by (Some d) (Some reading) = read_on (reading d)

abbrev pub status_of_read : Read → ℕ
status_of_read (Ok p) = 0
status_of_read (Err status) = status

abbrev pub size_or : Read → ℕ → ℕ
size_or (Ok p) old = p.0
size_or (Err status) old = old

abbrev pub bytes_or : Read → List ℕ → List ℕ
bytes_or (Ok p) old = p.1
bytes_or (Err status) old = old

-- Status, size and bytes are those of a read; where it gives none, the size that was told before and the lent bytes stay.
pub record Tells (read : Read) (status was size : ℕ) (before after : List ℕ) : Type 0 where
  pub status_is : status ≡ status_of_read read
  pub size_is : size ≡ size_or read was
  pub bytes_are : after ≡ bytes_or read before

-- A call reads: it tells what is read of each desk that the handle may be seen as. All that the handle has stays.
pub record Reads (reading : Option Reading) (old new : VfDesk) (status was size : ℕ) (before after : List ℕ) : Type 0 where
  pub tells : (s : Option Desk) → IsSeenDesk old s → Tells (read_by s reading) status was size before after
  pub same : new.handle.open_desk ≡ old.handle.open_desk
