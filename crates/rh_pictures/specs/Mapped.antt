-- What a map's run has read and written when it ends.
use Rattle.std.specs.Prelude.{◌≡◌, ◌⊎◌, ℕ, Bool, List, ◌++◌}
use Rattle.std.specs.Io.KnownBytes.{Consumes, IsAtEnd}
use Rattle.rh_defs.specs.Script.{has_bad_line}
use Rattle.rh_figure.specs.Map.{Place, Read, read_ended, read_lines}
use Rattle.rh_figure.specs.Whole.{IsMap}
use Rattle.rh_lines.specs.Flow.{Input, Output, Takes, Breaks}
use Rattle.rh_session.specs.Outcome.{status_of}
use Rattle.rh_session.specs.declared.status.Status.{Status}

-- all was read, and its map was written; no call failed
pub record Mapped (marked : Bool) (p : Place) (before after : Input) (old new : Output) (status : Status) : Type 0 where
  pub bytes : List ℕ
  pub read : Consumes before.left after.left bytes
  pub at_end : IsAtEnd after.left
  pub well : after.failed ≡ before.failed
  pub text : List ℕ
  pub map : IsMap marked p (read_lines bytes) text
  pub written : Takes old new text
  pub status_is : status ≡ status_of (has_bad_line bytes)

-- the map of the complete lines that were read has been written, and no write failed
pub record MappedSoFar (marked : Bool) (p : Place) (before after : Input) (old new : Output) : Type 0 where
  pub bytes : List ℕ
  pub read : Consumes before.left after.left bytes
  pub text : List ℕ
  pub map : IsMap marked p (read_ended bytes) text
  pub written : Takes old new text

-- these are some of the complete lines of a script, from the first on, or at its end all lines
abbrev pub AreFirst : List ℕ → Input → List Read → Type 0
AreFirst bytes after reads =
    ((behind : List Read) × (read_ended bytes ≡ reads ++ behind)) ⊎ (IsAtEnd after.left × (read_lines bytes ≡ reads))

-- the writer failed, and took a front of the map of the first lines
pub record MappedUntil (marked : Bool) (p : Place) (before after : Input) (old new : Output) : Type 0 where
  pub bytes : List ℕ
  pub read : Consumes before.left after.left bytes
  pub reads : List Read
  pub first : AreFirst bytes after reads
  pub text : List ℕ
  pub map : IsMap marked p reads text
  pub broken : Breaks old new text
