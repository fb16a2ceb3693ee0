-- What a text in lent bytes has been offered.
use Rattle.std.specs.Prelude.{ℕ, List, ◌∷◌, ◌++◌, length, take, drop, None, Some, false}
use Rattle.std.specs.Borrow.{MutBor}
use Rattle.rh_lines.specs.Flow.{Output}
use Rattle.rh_lines.specs.declared.whole_text.WholeText.{WholeText}

-- bytes with a text in place of their first ones, as far as they have room for it
abbrev pub filled : List ℕ → List ℕ → List ℕ
filled text old = take (length old) text ++ drop (length text) old

-- the lent bytes
abbrev pub whole_bytes : WholeText → MutBor (List ℕ)
whole_bytes t = t.bytes

-- the lent bytes as they were before
abbrev pub before_of : WholeText → List ℕ
before_of t = t.before.bytes

-- all that was offered: what lies in the lent bytes, and what found no room there
abbrev pub whole_text : WholeText → List ℕ
whole_text t = take t.taken t.bytes.now ++ t.beyond.bytes

-- All that was offered, behind the name of the loan and the bytes as they were before. No write changes these: a
-- caller of what writes knows by them that the bytes are still the ones that it lent.
unfoldable pub text_offered : WholeText → List ℕ
text_offered t = t.bytes.ghost_name ∷ length (before_of t) ∷ (before_of t ++ whole_text t)

-- the same, as what a writer takes
unfoldable pub output_of : WholeText → Output
output_of t = record {
  taken = Some (text_offered t);
  count = None;
  failed = false;
}
