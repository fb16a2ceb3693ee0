-- The bytes of an input that is looked at as a file.
use Rattle.std.specs.Prelude.{◌≡◌, ◌⊎◌, ◌≤◌, ◌<◌, ℕ, true, List, codes, length}
use Rattle.std.specs.Io.KnownBytes.{Consumes, IsAtEnd}
use Rattle.rh_defs.specs.declared.sizes.TheConstants.{LONGEST_FILE}
use Rattle.rh_lines.specs.Flow.{Input, Output}
use Rattle.rh_session.specs.declared.status.RunFault.TheVariants.{NoMemory, ReadFailed}
use Rattle.rh_desk.specs.Telling.{Tells, lost_file_text, run_fault_text}
use Rattle.rh_desk.specs.declared.reasons.FileLoss.TheVariants.{TooLong}

-- the bytes are all that the input had, and no more than a file may have
pub record IsAllOf (before after : Input) (bytes : List ℕ) : Type 0 where
  pub few : length bytes ≤ LONGEST_FILE
  pub read : Consumes before.left after.left bytes
  pub none_left : IsAtEnd after.left
  pub well : after.failed ≡ before.failed

-- more bytes than a file may have were read of the input
abbrev pub HasTooMany : Input → Input → Type 0
HasTooMany before after = (bytes : List ℕ) × (LONGEST_FILE < length bytes) × Consumes before.left after.left bytes

-- that the input failed was told, or that it has too many bytes, or want of memory
abbrev pub TellsLostInput : Input → Input → Output → Output → Type 0
TellsLostInput before after old new =
    ((after.failed ≡ true) × Tells old new (run_fault_text ReadFailed))
    ⊎ ((HasTooMany before after × Tells old new (lost_file_text (codes "-") TooLong)) ⊎ Tells old new (run_fault_text NoMemory))
