-- What is said of a whole script, and what was read and written of it.
use Rattle.std.specs.Prelude.{◌≡◌, ℕ, ◌+◌, ◌==◌, not, Bool, true, List, [], ◌∷◌, ◌++◌, length, IfSome, if◌then◌else◌, nat_lt}
use Rattle.std.specs.Io.KnownBytes.{Consumes, IsAtEnd}
use Rattle.rh_defs.specs.Desk.{Desk}
use Rattle.rh_defs.specs.Line.{line_means}
use Rattle.rh_defs.specs.Script.{line_desk}
use Rattle.rh_defs.specs.declared.fault.LineFault.TheVariants.{TooLong, Unended}
use Rattle.rh_defs.specs.declared.sizes.TheConstants.{LONGEST_LINE}
use Rattle.rh_session.specs.Lines.{kept_lines, kept_rest}
use Rattle.rh_lines.specs.Flow.{Input, Output, Takes, Breaks}
use Rattle.rh_session.specs.Outcome.{status_of}
use Rattle.rh_session.specs.declared.status.Status.{Status}
use Rattle.rh_explained.specs.Explanations.{bad_line, said_of_meaning}

-- what is said of a complete line with its number
abbrev pub said_of_line : Desk → ℕ → List ℕ → List ℕ
said_of_line d n line = said_of_meaning d n line (line_means line)

-- what is said of lines, of which n stand before the first
abbrev pub said_of_lines : Desk → ℕ → List (List ℕ) → List ℕ
said_of_lines d n [] = []
said_of_lines d n (l ∷ ls) = said_of_line d (n + 1) l ++ said_of_lines (line_desk d l) (n + 1) ls

-- what is said of a line that was cut
abbrev pub said_of_rest : ℕ → List ℕ → List ℕ
said_of_rest n [] = []
said_of_rest n (b ∷ bs) =
    bad_line n (b ∷ bs) (if nat_lt LONGEST_LINE (length (b ∷ bs)) then TooLong else Unended)

-- the explanations of the complete lines of a script, of which the first 1,025 bytes count
abbrev pub said_so_far : Desk → List ℕ → List ℕ
said_so_far d script = said_of_lines d 0 (kept_lines script)

-- those of all of a script
abbrev pub said_of_script : Desk → List ℕ → List ℕ
said_of_script d script =
    said_so_far d script ++ said_of_rest (length (kept_lines script) + 1) (kept_rest script)

-- a script is clean where nothing is said of it
abbrev pub is_said : List ℕ → Bool
is_said text = not (length text == 0)

-- all was read, and its explanations were written; no call failed
pub record Explained (d : Desk) (before after : Input) (old new : Output) (status : Status) : Type 0 where
  pub bytes : List ℕ
  pub read : Consumes before.left after.left bytes
  pub at_end : IsAtEnd after.left
  pub well : after.failed ≡ before.failed
  pub written : Takes old new (said_of_script d bytes)
  pub status_is : status ≡ status_of (is_said (said_of_script d bytes))

-- the explanations of the complete lines that were read have been written, and no write failed
pub record ExplainedSoFar (d : Desk) (before after : Input) (old new : Output) : Type 0 where
  pub bytes : List ℕ
  pub read : Consumes before.left after.left bytes
  pub written : Takes old new (said_so_far d bytes)

-- the writer failed, and took a front of the script's explanations
pub record ExplainedUntil (d : Desk) (before : Input) (old new : Output) : Type 0 where
  pub failed : new.failed ≡ true
  pub written : IfSome before.left (λ script. Breaks old new (said_of_script d script))
