-- What a printed number reads as.
use Rattle.rh_laws.proofs.Common.{◌≡◌, ℕ, zero, suc, ◌+◌, ◌-◌, ◌*◌, ◌/◌, ◌%◌, ◌^◌, ◌<◌, ◌≤◌, Bool, true, false, ◌&&◌, eqb-true, List, [], ◌∷◌, length, refl}
use Rattle.rh_laws.proofs.Common.{subst, ◌∙◌, ap, arith, inl, inr, fold, ◌==◌, unwrap_or, list_all, is_ascii_digit, decimal, digits, nat_tests, is_decimal}
use Rattle.rh_laws.proofs.Common.{number_of, hex_number, and_left, and_right}
use Rattle.std.specs.Char.{digit_value}
use Rattle.std.specs.Fmt.{digits_onto, digit_glyph}
use Rattle.std.specs.Str.Parse.{AllDigits, digits_value_after}
use Rattle.std.proofs.lemmas.Bool.{cases_lt}
use Rattle.std.proofs.lemmas.Fmt.{decimal_is_IsNumeral, length-decimal-le}
use Rattle.std.proofs.lemmas.Str.{digit_value_digit}
use Rattle.std.proofs.lemmas.Str.Parse.{digit_from_value}
use Rattle.hex.specs.Hex.{hex_digit_value, is_hex_digit}
use Rattle.rh_laws.proofs.Words.{is_whole, is_inner, all_pass}

-- ---- decimal digits

digit_passes : (c : ℕ) → digit_value c < 10 → is_ascii_digit c ≡ true
digit_passes c h = let range = digit_from_value c h in grind (arith, nat_tests, range)

digit_tells : (c : ℕ) → digit_value c < 10 → digit_value c ≡ c - 48
digit_tells c h = omega (arith, digit_value_digit c (digit_from_value c h))

all_digits : (ds : List ℕ) → AllDigits 10 ds → list_all is_ascii_digit ds ≡ true
all_digits [] h = refl
all_digits (c ∷ ds) h = rw (digit_passes c h.0) (all_digits ds h.1)

pub value_tells : (n : ℕ) (ds : List ℕ) → AllDigits 10 ds →
    fold (λ n c. 10 * n + (c - 48)) n ds ≡ digits_value_after 10 n ds
value_tells n [] h = refl
value_tells n (c ∷ ds) h =
    let same : 10 * n + (c - 48) ≡ n * 10 + digit_value c = omega (arith, digit_tells c h.0) in
    ap (λ m. fold (λ n c. 10 * n + (c - 48)) m ds) same ∙ value_tells (n * 10 + digit_value c) ds h.1

pub number_of_decimal : (n : ℕ) → n < 2 ^ 32 → number_of (decimal n) ≡ n
number_of_decimal n h =
    let is = decimal_is_IsNumeral n (omega arith) in value_tells 0 (decimal n) is.0.1 ∙ is.1

pub decimal_is_decimal : (n : ℕ) → n < 2 ^ 32 → is_decimal (decimal n) ≡ true
unfolding is_decimal
decimal_is_decimal n h =
    let is = decimal_is_IsNumeral n (omega arith) in
    let some : 0 < length (decimal n) = is.0.0 in
    let few : length (decimal n) ≤ 10 = length-decimal-le 10 n (omega arith) (omega arith) (omega arith) in
    rw (all_digits (decimal n) is.0.1) (grind (arith, nat_tests, some, few))

digit_is_inner : (b : ℕ) → is_ascii_digit b ≡ true → is_inner b ≡ true
digit_is_inner b h = grind (arith, nat_tests, h)

pub decimal_is_whole : (n : ℕ) → n < 2 ^ 32 → is_whole (decimal n) ≡ true
decimal_is_whole n h =
    let is = decimal_is_IsNumeral n (omega arith) in
    let some : 0 < length (decimal n) = is.0.0 in
    rw (all_pass is_ascii_digit is_inner (decimal n) digit_is_inner (all_digits (decimal n) is.0.1))
    (grind (arith, nat_tests, some))

-- ---- hexadecimal digits, whose sixteen are looked at one by one

abbrev pub all_below : (ℕ → Bool) → ℕ → Bool
all_below test zero = true
all_below test (suc n) = test n && all_below test n

pub test_at : (test : ℕ → Bool) (n k : ℕ) → all_below test n ≡ true → k < n → test k ≡ true
test_at test zero k h small = absurd (omega arith)
test_at test (suc n) k h small = elim (cases_lt k n) [
  | inl below ↦ test_at test n k (and_right (test n) (all_below test n) h) below
  | inr last ↦ let same : n ≡ k = omega arith in subst (λ m. test m ≡ true) same (and_left (test n)
      (all_below test n) h)
]

abbrev glyph : ℕ → ℕ
glyph d = digit_glyph true d

glyph_tells : (d : ℕ) → d < 16 → (unwrap_or (hex_digit_value (glyph d)) 0 == d) ≡ true
glyph_tells d h = test_at (λ d. unwrap_or (hex_digit_value (glyph d)) 0 == d) 16 d refl h

glyph_passes : (d : ℕ) → d < 16 → (is_hex_digit (glyph d) && is_inner (glyph d)) ≡ true
glyph_passes d h = test_at (λ d. is_hex_digit (glyph d) && is_inner (glyph d)) 16 d refl h

is_zero : (n : ℕ) → n ≡ 0 → (n == 0) ≡ true
is_zero n h = grind (arith, nat_tests, h)

is_positive : (n : ℕ) → 1 ≤ n → (n == 0) ≡ false
is_positive n h = grind (arith, nat_tests, h)

-- the last k digits of a number at most, before others
abbrev pub onto : ℕ → ℕ → List ℕ → List ℕ
onto k n behind = digits_onto k 16 true n behind

-- the last digit of a number
abbrev last_glyph : ℕ → ℕ
last_glyph n = glyph (n % 16)

onto_last : (k n : ℕ) (behind : List ℕ) → n < 16 → onto (suc k) n behind ≡ last_glyph n ∷ behind
onto_last k n behind h = rw (is_zero (n / 16) (omega arith)) refl

onto_next : (k n : ℕ) (behind : List ℕ) → 16 ≤ n → onto (suc k) n behind ≡ onto k (n / 16) (last_glyph n ∷ behind)
onto_next k n behind h = rw (is_positive (n / 16) (omega arith)) refl

abbrev more : ℕ → ℕ → ℕ
more n c = 16 * n + unwrap_or (hex_digit_value c) 0

last_more : (n q : ℕ) → q ≡ n / 16 → more q (last_glyph n) ≡ n
last_more n q same =
    let digit : unwrap_or (hex_digit_value (last_glyph n)) 0 ≡ n % 16 = eqb-true _ _ (glyph_tells (n % 16)
    (omega arith)) in
    omega (arith, digit, same)

hex_after : (k n : ℕ) (behind : List ℕ) → n < 16 ^ k → fold more 0 (onto k n behind) ≡ fold more n behind
hex_after zero n behind h = let none : 0 ≡ n = omega (arith, h) in ap (λ m. fold more m behind) none
hex_after (suc k) n behind h = elim (cases_lt n 16) [
  | inl few ↦ ap (fold more 0) (onto_last k n behind few) ∙ ap (λ m. fold more m behind) (last_more n 0 (omega arith))
  | inr many ↦
      ap (fold more 0) (onto_next k n behind many) ∙ hex_after k (n / 16) (last_glyph n ∷ behind) (omega (arith, h))
      ∙ ap (λ m. fold more m behind) (last_more n (n / 16) refl)
]

onto_all : (test : ℕ → Bool) → ((d : ℕ) → d < 16 → test (glyph d) ≡ true) → (k n : ℕ) (behind : List ℕ) →
    list_all test behind ≡ true → list_all test (onto k n behind) ≡ true
onto_all test each zero n behind h = h
onto_all test each (suc k) n behind h =
    let first : list_all test (last_glyph n ∷ behind) ≡ true = rw (each (n % 16) (omega arith)) h in
    elim (cases_lt n 16) [
      | inl few ↦ ap (list_all test) (onto_last k n behind few) ∙ first
      | inr many ↦ ap (list_all test) (onto_next k n behind many)
          ∙ onto_all test each k (n / 16) (last_glyph n ∷ behind) first
    ]

pub onto_most : (k j n : ℕ) (behind : List ℕ) → n < 16 ^ suc j → length (onto k n behind) ≤ suc j + length behind
onto_most zero j n behind h = omega arith
onto_most (suc k) zero n behind h = omega (arith, ap length (onto_last k n behind (omega (arith, h))))
onto_most (suc k) (suc j) n behind h = elim (cases_lt n 16) [
  | inl few ↦ omega (arith, ap length (onto_last k n behind few))
  | inr many ↦
      let next = ap length (onto_next k n behind many) in
      let rest = onto_most k j (n / 16) (last_glyph n ∷ behind) (omega (arith, h)) in omega (arith, next, rest)
]

onto_least : (k n : ℕ) (behind : List ℕ) → length behind ≤ length (onto k n behind)
onto_least zero n behind = omega arith
onto_least (suc k) n behind = elim (cases_lt n 16) [
  | inl few ↦ omega (arith, ap length (onto_last k n behind few))
  | inr many ↦
      omega (arith, ap length (onto_next k n behind many), onto_least k (n / 16) (last_glyph n ∷ behind))
]

onto_some : (k n : ℕ) → 1 ≤ length (onto (suc k) n [])
onto_some k n = elim (cases_lt n 16) [
  | inl few ↦ omega (arith, ap length (onto_last k n [] few))
  | inr many ↦ omega (arith, ap length (onto_next k n [] many), onto_least k (n / 16) (last_glyph n ∷ []))
]

-- what is known of the digits of an address
pub record HexDigits (n : ℕ) : Type 0 where
  pub value : hex_number (digits 16 true n) ≡ n
  pub pass : list_all is_hex_digit (digits 16 true n) ≡ true
  pub inner : list_all is_inner (digits 16 true n) ≡ true
  pub some : 1 ≤ length (digits 16 true n)
  pub few : length (digits 16 true n) ≤ 8

pub hex_digits : (n : ℕ) → n < 2 ^ 32 → HexDigits n
unfolding digits
hex_digits n h = record {
  value = hex_after 64 n [] (omega arith);
  pass = onto_all is_hex_digit (λ d small. and_left _ _ (glyph_passes d small)) 64 n [] refl;
  inner = onto_all is_inner (λ d small. and_right _ _ (glyph_passes d small)) 64 n [] refl;
  some = onto_some 63 n;
  few = onto_most 64 7 n [] (omega arith);
}
