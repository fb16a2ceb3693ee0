-- Hexadecimal digits, one by one from the last one on.
use Rattle.std.proofs.Common.{◌≡◌, ◌≢◌, ℕ, zero, suc, ◌/◌, ◌%◌, ◌^◌, ◌<◌, ◌≤◌, inl, inr, Bool, true, false, cond, eqb, List, [], ◌∷◌, ◌++◌, append_assoc}
use Rattle.std.proofs.Common.{refl, sym, ap, ◌∙◌, arith, rules, ◌-◌}
use Rattle.std.specs.Fmt.{digits, digits_onto, digit_glyph}
use Rattle.std.proofs.lemmas.Fmt.{hex_one_digit}
use Rattle.std.proofs.lemmas.Bool.{cases_lt}
use borrow.Author.Tests.{tests}

-- the hexadecimal digits of n before acc, up to k of them
abbrev hex_onto : ℕ → ℕ → List ℕ → List ℕ
hex_onto k n acc = digits_onto k 16 true n acc

abbrev glyph : ℕ → ℕ
glyph n = digit_glyph true (n % 16)

by_test : (b t : Bool) (x y : List ℕ) → b ≡ t → cond b x y ≡ cond t x y
by_test b t x y e = ap (λ c. cond c x y) e

is_zero : (n : ℕ) → n ≡ 0 → eqb n 0 ≡ true
is_zero n e = search (rules, tests)

is_positive : (n : ℕ) → n ≢ 0 → eqb n 0 ≡ false
is_positive n e = search (rules, tests)

last : (k n : ℕ) (acc : List ℕ) → n < 16 → hex_onto (suc k) n acc ≡ glyph n ∷ acc
last k n acc h = by_test _ true _ _ (is_zero (n / 16) (omega arith))

next : (k n : ℕ) (acc : List ℕ) → 16 ≤ n → hex_onto (suc k) n acc ≡ hex_onto k (n / 16) (glyph n ∷ acc)
next k n acc h = by_test _ false _ _ (is_positive (n / 16) (λ e. omega arith))

onto_append : (k n : ℕ) (acc : List ℕ) → hex_onto k n acc ≡ hex_onto k n [] ++ acc
onto_append zero n acc = refl
onto_append (suc k) n acc = elim (cases_lt n 16) [
  | inl l ↦ last k n acc l ∙ ap (λ x. x ++ acc) (sym (last k n [] l))
  | inr l ↦ next k n acc l ∙ onto_append k (n / 16) (glyph n ∷ acc) ∙ sym (append_assoc (hex_onto k (n / 16) []) (glyph n ∷ []) acc)
      ∙ ap (λ x. x ++ acc) (sym (next k n [] l ∙ onto_append k (n / 16) (glyph n ∷ [])))
]

-- room for one digit more changes nothing where there is enough
onto_more : (k n : ℕ) (acc : List ℕ) → n < 16 ^ suc k → hex_onto (suc (suc k)) n acc ≡ hex_onto (suc k) n acc
onto_more zero n acc h = last (suc zero) n acc (omega arith) ∙ sym (last zero n acc (omega arith))
onto_more (suc k) n acc h = elim (cases_lt n 16) [
  | inl l ↦ last (suc (suc k)) n acc l ∙ sym (last (suc k) n acc l)
  | inr l ↦ next (suc (suc k)) n acc l ∙ onto_more k (n / 16) (glyph n ∷ acc) (omega (arith, h)) ∙ sym (next (suc k) n acc l)
]

pub hex_step : (n : ℕ) → 16 ≤ n → n < 2 ^ 32 → digits 16 true n ≡ digits 16 true (n / 16) ++ (glyph n ∷ [])
unfolding digits
hex_step n h small = next 63 n [] h ∙ sym (onto_more 62 (n / 16) (glyph n ∷ []) (omega arith)) ∙ onto_append 64 (n / 16) (glyph n ∷ [])

-- one digit more before the ones behind it
pub digit_before : (all : List ℕ) (rest : ℕ) (text : List ℕ) (d : ℕ) → all ≡ digits 16 true rest ++ text → 16 ≤ rest → rest < 2 ^ 32
    → d ≡ glyph rest → all ≡ digits 16 true (rest / 16) ++ (d ∷ text)
digit_before all rest text d so_far big small is =
    so_far ∙ ap (λ z. z ++ text) (hex_step rest big small)
    ∙ append_assoc (digits 16 true (rest / 16)) (glyph rest ∷ []) text ∙ ap (λ z. digits 16 true (rest / 16) ++ (z ∷ text)) (sym is)

-- the first digit before the ones behind it
pub digit_first : (all : List ℕ) (rest : ℕ) (text : List ℕ) (d : ℕ) → all ≡ digits 16 true rest ++ text → rest < 16 → d ≡ digit_glyph true rest
    → d ∷ text ≡ all
digit_first all rest text d so_far small is =
    ap (λ z. z ∷ text) is ∙ sym (so_far ∙ ap (λ z. z ++ text) (hex_one_digit true rest small))

-- a number that has more than one digit has fewer without its last
pub fewer_digits : (rest at : ℕ) → 16 ≤ rest → rest < 16 ^ at → (1 < at) × (rest / 16 < 16 ^ (at - 1))
fewer_digits rest zero big lt = absurd (omega arith)
fewer_digits rest (suc zero) big lt = absurd (omega (arith, lt))
fewer_digits rest (suc (suc k)) big lt =
    let one_less : suc (suc k) - 1 ≡ suc k = omega arith in
    let below : rest / 16 < 16 ^ suc k = omega (arith, lt) in (omega arith, rw one_less below)
