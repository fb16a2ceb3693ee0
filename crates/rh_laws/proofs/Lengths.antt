-- A printed number is not longer than the digits that it was read from.
use Rattle.rh_laws.proofs.Common.{◌≡◌, ℕ, suc, ◌+◌, ◌*◌, ◌^◌, ◌<◌, ◌≤◌, Bool, true, false, ◌&&◌, List, [], ◌∷◌, length, refl, ap, arith, lit≤, nat_le, nat_lt}
use Rattle.rh_laws.proofs.Common.{fold, unwrap_or, list_all, is_ascii_digit, decimal, digits, nat_tests, is_decimal, number_of, hex_number, and_left, and_right}
use Rattle.std.specs.Char.{digit_value}
use Rattle.std.specs.Str.Parse.{AllDigits, digits_value}
use Rattle.std.proofs.Math.Nat.{pow-zero, pow-succ', pow-le-pow_right, mul-le-mul_right}
use Rattle.std.proofs.lemmas.Fmt.{length-decimal-le}
use Rattle.std.proofs.lemmas.Str.{digit_value_digit}
use Rattle.std.proofs.lemmas.Int.Digits.{digits_value-lt}
use Rattle.hex.specs.Hex.{hex_digit_value}
use Rattle.rh_laws.proofs.Numbers.{value_tells, onto_most}

-- ---- decimal digits

digit_is : (c : ℕ) → is_ascii_digit c ≡ true → digit_value c < 10
digit_is c h =
    let low : 48 ≤ c = grind (arith, nat_tests, h) in
    let high : c ≤ 57 = grind (arith, nat_tests, h) in
    omega (arith, digit_value_digit c (low, high), high)

digits_are : (ds : List ℕ) → list_all is_ascii_digit ds ≡ true → AllDigits 10 ds
digits_are [] h = tt
digits_are (c ∷ ds) h = (
  digit_is c (and_left (is_ascii_digit c) (list_all is_ascii_digit ds) h),
  digits_are ds (and_right (is_ascii_digit c) (list_all is_ascii_digit ds) h),
)

-- digits of at most ten places
pub decimal_short : (w : List ℕ) → is_decimal w ≡ true → length (decimal (number_of w)) ≤ length w
unfolding is_decimal
decimal_short w h =
    let front = and_left _ (nat_le (length w) 10) h in
    let some : 0 < length w = let told = and_right (list_all is_ascii_digit w) _ front in grind (
      arith,
      nat_tests,
      told,
    ) in
    let all = digits_are w (and_left _ (nat_le 1 (length w)) front) in
    let bound : digits_value 10 w < 10 ^ length w = digits_value-lt 10 w all in
    let few : length w ≤ 10 = let told = and_right _ (nat_le (length w) 10) h in grind (arith, nat_tests, told) in
    let most : 10 ^ length w ≤ 10 ^ 10 = pow-le-pow_right {n = 10} (omega arith) few in
    let same = value_tells 0 w all in
    length-decimal-le (length w) (number_of w) some (omega (arith, same, bound)) (omega (arith, same, bound, most))

-- ---- hexadecimal digits

abbrev more : ℕ → ℕ → ℕ
more n c = 16 * n + unwrap_or (hex_digit_value c) 0

hex_digit_small : (c : ℕ) → unwrap_or (hex_digit_value c) 0 < 16
hex_digit_small c = by (nat_le 65 c && nat_le c 70) refl (nat_le 97 c && nat_le c 102) refl
    (nat_le 48 c && nat_le c 57) refl
  where
    by : (upper : Bool) → (nat_le 65 c && nat_le c 70) ≡ upper → (lower : Bool) →
        (nat_le 97 c && nat_le c 102) ≡ lower →
        (digit : Bool) → (nat_le 48 c && nat_le c 57) ≡ digit → unwrap_or (hex_digit_value c) 0 < 16
    by true u lower l digit d = rw u (grind (arith, nat_tests, u))
    by false u true l digit d = rw (u, l) (grind (arith, nat_tests, l))
    by false u false l true d = rw (u, l, d) (grind (arith, nat_tests, d))
    by false u false l false d = rw (u, l, d) (lit≤ tt)

-- the digits behind others weigh what they are worth by themselves
behind : (n : ℕ) (ds : List ℕ) → fold more n ds ≡ n * 16 ^ length ds + fold more 0 ds
behind n [] = omega (arith, ap (λ x. n * x) (pow-zero 16))
behind n (c ∷ ds) =
    let d = unwrap_or (hex_digit_value c) 0 in
    omega (arith, behind (more n c) ds, behind (more 0 c) ds, ap (λ x. n * x) (pow-succ' 16 (length ds)))

hex_below : (ds : List ℕ) → fold more 0 ds < 16 ^ length ds
hex_below [] = lit≤ tt
hex_below (c ∷ ds) =
    let small = hex_digit_small c in
    let most : more 0 c * 16 ^ length ds ≤ 15 * 16 ^ length ds = mul-le-mul_right (16 ^ length ds) (omega (
      arith,
      small,
    )) in
    omega (arith, behind (more 0 c) ds, hex_below ds, most, pow-succ' 16 (length ds))

hex_length : (k n : ℕ) → n < 16 ^ suc k → length (digits 16 true n) ≤ suc k
unfolding digits
hex_length k n h = omega (arith, onto_most 64 k n [] h)

pub hex_short : (ds : List ℕ) → nat_le 1 (length ds) ≡ true → length (digits 16 true (hex_number ds)) ≤ length ds
hex_short [] some = absurd cc
hex_short (c ∷ ds) some = hex_length (length ds) (hex_number (c ∷ ds)) (hex_below (c ∷ ds))

-- digits of eight places at most
pub hex_word : (ds : List ℕ) → nat_le (length ds) 8 ≡ true → nat_lt (hex_number ds) (2 ^ 32) ≡ true
hex_word ds few =
    let fits : length ds ≤ 8 = grind (arith, nat_tests, few) in
    let most : 16 ^ length ds ≤ 16 ^ 8 = pow-le-pow_right {n = 16} (omega arith) fits in
    let below : hex_number ds < 16 ^ length ds = hex_below ds in
    let small : hex_number ds < 2 ^ 32 = omega (arith, most, below) in
    grind (arith, nat_tests, small)
