-- What a line means, by its first word and its first eight words.
use Rattle.std.proofs.Common.{◌≡◌, ℕ, ◌+◌, ◌<◌, ◌≤◌, Bool, true, false, eqb, List, [], ◌∷◌, ◌++◌, length, take, refl, ◌∙◌}
use Rattle.std.proofs.Common.{ap, arith, rules, ◌&&◌, ◌||◌, ◌⊎◌, inl, inr}
use Rattle.std.specs.Prelude.{nat_le, if◌then◌else◌, Ok, Err}
use Rattle.rh_defs.specs.declared.fault.LineFault.{LineFault}
use Rattle.std.specs.List.{AllByRecursion, list_all, list_any}
use Rattle.std.specs.Str.{bytes_eq}
use Rattle.std.proofs.lemmas.List.{take_all, length-take}
use borrow.Author.Tests.{tests}
use Rattle.rh_defs.specs.declared.fault.LineFault.TheVariants.{Unknown, Word}
use Rattle.rh_defs.specs.Grammar.{Form, Maybe, GrammarRow, rows}
use Rattle.rh_defs.specs.Line.{words_of, nth_word, is_skipped, is_count, follow, grammar_row, row_means}
use Rattle.rh_defs.specs.Chain.{◌>>=◌}
use Rattle.rh_defs.specs.Line.{command_by, command_of, Meaning}
use Rattle.rh_defs.specs.declared.command.Command.{Command}
use Rattle.rh_lines.specs.Readers.{IsNoneOf}
use Rattle.rh_lines.specs.Words.{first_words}

-- ---- by the first word

and_true : (a b : Bool) → (a && b) ≡ true → (a ≡ true) × (b ≡ true)
and_true true b e = (refl, e)
and_true false b e = absurd (cc)

same_bytes : (a b : List ℕ) → bytes_eq a b ≡ true → a ≡ b
same_bytes a b e = search (rules, tests)

-- it differs from each of these
abbrev Differs : List ℕ → List (List ℕ) → Type 0
Differs w texts = AllByRecursion (λ text. bytes_eq w text ≡ false) texts

unlike : (w text : List ℕ) (texts : List (List ℕ)) → list_any (bytes_eq text) texts ≡ true → Differs w texts → bytes_eq w text ≡ false
unlike w text [] found differs = absurd cc
unlike w text (other ∷ texts) found differs = go (bytes_eq text other) refl found (λ behind. unlike w text texts behind differs.1)
  where
    go : (same : Bool) → bytes_eq text other ≡ same → (same || list_any (bytes_eq text) texts) ≡ true
        → (list_any (bytes_eq text) texts ≡ true → bytes_eq w text ≡ false) → bytes_eq w text ≡ false
    go true is either rest = rw (same_bytes text other is) differs.0
    go false is either rest = rest either

no_row : (w : List ℕ) (words texts : List (List ℕ)) (fault : LineFault) (rs : List GrammarRow) → Differs w texts
    → list_all (λ row. list_any (bytes_eq row.first) texts) rs ≡ true → grammar_row rs w words fault ≡ Err fault
no_row w words texts fault [] differs known = refl
no_row w words texts fault (row ∷ rs) differs known =
    let both = and_true (list_any (bytes_eq row.first) texts) (list_all (λ row. list_any (bytes_eq row.first) texts) rs) known in
    rw (unlike w row.first texts both.0 differs) (no_row w words texts fault rs differs both.1)

-- none of some words and none of others
pub none-both : {w : List ℕ} {texts others : List (List ℕ)} → IsNoneOf w texts → IsNoneOf w others → IsNoneOf w (texts ++ others)
none-both {w} {texts} {others} none more = record { differs = go texts none.differs }
  where
    go : (some : List (List ℕ)) → Differs w some → Differs w (some ++ others)
    go [] here = more.differs
    go (text ∷ some) here = (here.0, go some here.1)

-- a line whose first word is none that a row begins with
pub by_none : (words : List (List ℕ)) {texts : List (List ℕ)} → IsNoneOf (nth_word words 1) texts
    → list_all (λ row. list_any (bytes_eq row.first) texts) rows ≡ true
    → Err Unknown ≡ command_of words
unfolding command_by ◌>>=◌
by_none words {texts} none known = rw (no_row (nth_word words 1) words texts Unknown rows none.differs known) refl

-- ---- by the first eight words

is_not : (n k : ℕ) → k < n → eqb n k ≡ false
is_not n k more = let differs : n ≡ k → ⊥ = λ e. omega arith in search (rules, tests)

neither : (a b : Bool) → a ≡ false → b ≡ false → (a || b) ≡ false
neither true b e f = absurd (cc)
neither false b e f = f

-- a line with more words than forms
not_counted : (forms : List Form) (n count : ℕ) → n + length forms < count → is_count forms n count ≡ false
not_counted [] n count more = is_not count n (omega (arith, more))
not_counted (Maybe form ∷ forms) n count more =
    neither (eqb count n) _ (is_not count n (omega (arith, more))) (not_counted forms (n + 1) count (omega (arith, more)))
not_counted (form ∷ forms) n count more = not_counted forms (n + 1) count (omega (arith, more))

-- a row has at most one word behind its first, and seven in all
abbrev is_short : GrammarRow → Bool
is_short row = nat_le (length row.further) 1 && nat_le (1 + length row.further + length row.forms) 7

second_follows : (texts words others : List (List ℕ)) → nat_le (length texts) 1 ≡ true → nth_word words 2 ≡ nth_word others 2 →
    follow texts words 1 ≡ follow texts others 1
second_follows [] words others short e = refl
second_follows (text ∷ []) words others short e = rw e refl
second_follows (text ∷ other ∷ texts) words others short e = absurd (search (rules, tests, short))

-- lines with too many words
module _ (words others : List (List ℕ)) (second : nth_word words 2 ≡ nth_word others 2) (many : 7 < length words) (more : 7 < length others) where
  too_long : (row : GrammarRow) → is_short row ≡ true → row_means row words ≡ row_means row others
  too_long row short =
      let named : ℕ = 1 + length row.further in
      let fits : nat_le (named + length row.forms) 7 ≡ true =
      (and_true (nat_le (length row.further) 1) (nat_le (named + length row.forms) 7) short).1 in
      let few : named + length row.forms ≤ 7 = search (rules, tests) in
      rw (
        not_counted row.forms named (length words) (omega (arith, few, many)),
        not_counted row.forms named (length others) (omega (arith, few, more)),
      ) refl

  -- what a line means whose first word is w, by these rows
  abbrev by_rows : List (List ℕ) → List ℕ → LineFault → List GrammarRow → Meaning Command
  by_rows given w fault rs = grammar_row rs w given fault >>= λ row. row_means row given

  one_row : (w : List ℕ) (fault : LineFault) (row : GrammarRow) (rs : List GrammarRow) (first follows : Bool) → is_short row ≡ true →
      ((f : LineFault) → by_rows words w f rs ≡ by_rows others w f rs) →
      ((if first && follows then Ok row else grammar_row rs w words (if first then Word 2 else fault)) >>= λ row. row_means row words)
      ≡ ((if first && follows then Ok row else grammar_row rs w others (if first then Word 2 else fault)) >>= λ row. row_means row others)
  unfolding ◌>>=◌
  one_row w fault row rs true true short rest = too_long row short
  one_row w fault row rs true false short rest = rest (Word 2)
  one_row w fault row rs false follows short rest = rest fault

  too_many : (w : List ℕ) (rs : List GrammarRow) → list_all is_short rs ≡ true → (fault : LineFault) →
      by_rows words w fault rs ≡ by_rows others w fault rs
  unfolding ◌>>=◌
  too_many w [] short fault = refl
  too_many w (row ∷ rs) short fault =
      let now = and_true (is_short row) (list_all is_short rs) short in
      let few : nat_le (length row.further) 1 ≡ true =
      (and_true (nat_le (length row.further) 1) (nat_le (1 + length row.further + length row.forms) 7) now.0).0 in
      rw (
        is_not (length words) 1 (omega (arith, many)),
        is_not (length others) 1 (omega (arith, more)),
        second_follows row.further words others few second,
      )
      (one_row w fault row rs (bytes_eq w row.first) (follow row.further others 1) now.0 (too_many w rs now.1))

first_same : (words : List (List ℕ)) → nth_word (take 8 words) 1 ≡ nth_word words 1
first_same [] = refl
first_same (w ∷ words) = refl

second_same : (words : List (List ℕ)) → nth_word (take 8 words) 2 ≡ nth_word words 2
second_same [] = refl
second_same (w ∷ []) = refl
second_same (w ∷ v ∷ words) = refl

few_or_many : (n : ℕ) → (n ≤ 8) ⊎ (7 < n)
few_or_many n = grind arith

commands_same : (words : List (List ℕ)) → (length words ≤ 8) ⊎ (7 < length words) → command_of (take 8 words) ≡ command_of words
unfolding command_by rows
commands_same words (inl few) = ap command_of (take_all 8 words few)
commands_same words (inr many) =
    ap (λ w. command_by w (take 8 words)) (first_same words)
    ∙ too_many (take 8 words) words (second_same words) (grind (arith, length-take)) many (nth_word words 1) rows refl Unknown

pub command_of-first_words : (line : List ℕ) → command_of (first_words line) ≡ command_of (words_of line)
unfolding first_words
command_of-first_words line = commands_same (words_of line) (few_or_many (length (words_of line)))

skipped_same : (words : List (List ℕ)) → is_skipped (take 8 words) ≡ is_skipped words
skipped_same [] = refl
skipped_same (w ∷ words) = let longer : eqb (length (w ∷ take 7 words)) 0 ≡ eqb (length (w ∷ words)) 0 = search (rules, tests) in cc

pub is_skipped-first_words : (line : List ℕ) → is_skipped (first_words line) ≡ is_skipped (words_of line)
unfolding first_words
is_skipped-first_words line = skipped_same (words_of line)

pub ruleset by_words = (is_skipped-first_words, command_of-first_words)
