-- What is written into lent bytes.
use Rattle.std.specs.Prelude.{◌≡◌, ℕ, List, ◌++◌}
use Rattle.rh_lines.specs.declared.whole_text.WholeText.{WholeText}
use Rattle.rh_lines.specs.WholeText.{before_of, whole_text}

-- these bytes were written behind a text, in the same lent bytes
pub record Wrote (old new : WholeText) (bytes : List ℕ) : Type 0 where
  pub same_reference : new.bytes.ghost_name ≡ old.bytes.ghost_name
  pub before : before_of new ≡ before_of old
  pub text : whole_text new ≡ whole_text old ++ bytes
