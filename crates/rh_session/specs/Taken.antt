-- What was done with the lines of a script, one after the other.
use Rattle.std.specs.Prelude.{◌≡◌, ◌⊎◌, ℕ, List, [], ◌∷◌, ◌++◌, map}
use Rattle.std.specs.Io.KnownBytes.{Consumes, IsAtEnd}
use Rattle.rh_lines.specs.Flow.{Input, Output, Takes, Breaks}
use Rattle.rh_defs.specs.Script.{ended}
use Rattle.rh_session.specs.Lines.{kept, kept_lines, kept_rest}

-- what taking one line does: from a taker and a line to the taker behind it and the text that is written
abbrev pub Step : Type 0 → Type 1
Step S = S → List ℕ → S → List ℕ → Type 0

-- such a text was written behind the others
pub record Gives (is : List ℕ → Type 0) (old new : List ℕ) : Type 0 where
  pub text : List ℕ
  pub meets : is text
  pub offered : new ≡ old ++ text

-- lines were taken, one after the other, and this is their text
abbrev pub TookAll : {S : Type 0} → Step S → S → List (List ℕ) → S → List ℕ → Type 0
TookAll step s [] t text = (s ≡ t) × (text ≡ [])
TookAll {S} step s (l ∷ ls) t text =
    (u : S) × (a : List ℕ) × (b : List ℕ) × step s l u a × TookAll step u ls t b × (text ≡ a ++ b)

-- of the lines that end in these bytes some were taken, from the first on
pub record TookFront {S : Type 0} (step : Step S) (s : S) (bytes : List ℕ) (text : List ℕ) : Type 0 where
  pub front : List (List ℕ)
  pub behind : List (List ℕ)
  pub whole : ended bytes ≡ front ++ behind
  pub taker : S
  pub taken : TookAll step s (map kept front) taker text

-- all lines of these bytes were taken, and what stands behind the last line feed
pub record TookScript {S : Type 0} (step last : Step S) (s : S) (bytes : List ℕ) (t : S) (text : List ℕ) : Type 0 where
  pub taker : S
  pub front : List ℕ
  pub rest : List ℕ
  pub taken : TookAll step s (kept_lines bytes) taker front
  pub ended : last taker (kept_rest bytes) t rest
  pub whole : text ≡ front ++ rest

-- the complete lines that were read have been taken, and their text was written
pub record Fed {S : Type 0} (step : Step S) (before after : Input) (s t : S) (old new : Output) : Type 0 where
  pub bytes : List ℕ
  pub read : Consumes before.left after.left bytes
  pub text : List ℕ
  pub taken : TookAll step s (kept_lines bytes) t text
  pub written : Takes old new text

-- the script was read to its end, all of it was taken, and its text was written
pub record FedAll {S : Type 0} (step last : Step S) (before after : Input) (s t : S) (old new : Output) : Type 0 where
  pub bytes : List ℕ
  pub read : Consumes before.left after.left bytes
  pub at_end : IsAtEnd after.left
  pub well : after.failed ≡ before.failed
  pub text : List ℕ
  pub taken : TookScript step last s bytes t text
  pub written : Takes old new text

-- some of the lines that were read were taken, from the first on, or at the script's end all of it; the writer failed,
-- and took a front of their text
pub record FedUntil {S : Type 0} (step last : Step S) (before after : Input) (s : S) (old new : Output) : Type 0 where
  pub bytes : List ℕ
  pub read : Consumes before.left after.left bytes
  pub text : List ℕ
  pub taken : TookFront step s bytes text ⊎ (IsAtEnd after.left × (t : S) × TookScript step last s bytes t text)
  pub broken : Breaks old new text
