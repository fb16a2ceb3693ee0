use Rattle.std.proofs.Common.{ℕ, ◌<◌, ◌≤◌, ◌≡◌, Bool, true, false, List, [], ap, arith, refl, sym, ◌∙◌}
use Rattle.std.specs.Prelude.{nat_lt, ◌||◌, if◌then◌else◌}
use Rattle.std.proofs.lemmas.Bool.Decides.{nat_tests}
use Rattle.rh_figure.specs.Phrases.{Text}
use Rattle.rh_lens.specs.ByteWords.{byte_choices}
use Rattle.rh_lens.specs.LensWords.{fitting_words}
use Rattle.rh_lens.specs.Widths.{has_cells}
use Rattle.rh_lens.proofs.words.block_bytes.Goals as goal
use Rattle.rh_lens.proofs.words.block_bytes.Goals.{then-has_cells-via-then-has_cells, then-has_cells-via-else-has_cells+then-width-lt-BYTES_LEAST}

is-below : (m n : ℕ) → m < n → nat_lt m n ≡ true
is-below m n e = grind (arith, nat_tests)

not-below : (m n : ℕ) → n ≤ m → nat_lt m n ≡ false
not-below m n e = grind (arith, nat_tests)

-- where cells have the bytes there are no words of them, nor in a narrow part
words-none : (cells narrow : Bool) (room : ℕ) (ts : List Text) (x : Text) → (cells || narrow) ≡ true → x ≡ []
    → x ≡ fitting_words room (if cells || narrow then [] else ts)
words-none true narrow room ts x e none = none
words-none false true room ts x e none = none
words-none false false room ts x e none = absurd (cc)

words-some : (cells narrow : Bool) (room : ℕ) (ts : List Text) (x : Text) → cells ≡ false → narrow ≡ false → x ≡ fitting_words room ts
    → x ≡ fitting_words room (if cells || narrow then [] else ts)
words-some true narrow room ts x e f is = absurd (cc)
words-some false true room ts x e f is = absurd (cc)
words-some false false room ts x e f is = is

either-first : (a b : Bool) → a ≡ true → (a || b) ≡ true
either-first true b e = e
either-first false b e = absurd (cc)

either-second : (a b : Bool) → b ≡ true → (a || b) ≡ true
either-second true b e = refl
either-second false b e = e

pub returns-then-has_cells : goal.returns-then-has_cells
returns-then-has_cells c i p told =
    let cells = has_cells c.args.width i c.args.kind in
    let narrow = nat_lt c.args.width 84 in
    let ts = byte_choices c.args.room c.args.size i.bytes in
    let same : c.has_cells.result ≡ cells = c.has_cells.ensures i p told in
    let either : (cells || narrow) ≡ true = elim c.then-has_cells.branch [
      | then-has_cells-via-then-has_cells w ↦ either-first cells narrow (sym same ∙ w.if-has_cells.true)
      | then-has_cells-via-else-has_cells+then-width-lt-BYTES_LEAST w ↦
          either-second cells narrow (is-below c.args.width 84 w.if-width-lt-BYTES_LEAST.true)
    ] in
    words-none cells narrow c.args.room ts c.new.result either c.new.ensures

pub returns : goal.returns
returns c i p told =
    let room = c.args.room in
    words-some (has_cells c.args.width i c.args.kind) (nat_lt c.args.width 84) room (byte_choices room c.args.size i.bytes) c.byte_words.result
    (sym (c.has_cells.ensures i p told) ∙ c.if-has_cells.false) (not-below c.args.width 84 c.if-width-lt-BYTES_LEAST.false)
    (c.byte_words.ensures ∙ ap (λ bs. fitting_words room (byte_choices room c.args.size bs)) (c.deref.ensures.0 ∙ sym told.bytes))
