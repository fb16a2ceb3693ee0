-- Each form of a word reads what is printed for it.
use Rattle.rh_laws.proofs.Common.{◌≡◌, ℕ, zero, suc, ◌/◌, ◌%◌, ◌^◌, ◌<◌, Bool, true, false, ◌&&◌, List, [], ◌∷◌, length, refl, arith, lit≤, nat_le, nat_lt}
use Rattle.rh_defs.specs.declared.sizes.TheConstants.{GREATEST_NUMBER}
use Rattle.rh_laws.proofs.Common.{slice_index, ◌==◌, ℤ, pos, negsuc, Ok, list_all, is_ascii_digit, decimal, signed_decimal, digits, nat_tests, encode_lower}
use Rattle.rh_laws.proofs.Common.{is_name, is_leaf, is_decimal, is_delta, nth_word, Words, address, and_left, and_right}
use Rattle.std.specs.Char.{is_ascii_alphanumeric, is_ascii_alphabetic}
use Rattle.hex.specs.Hex.{encode_with, lower_digits}
use Rattle.hex.proofs.HexLemmas.{decode_of-encode_lower, length-encode_with}
use Rattle.rh_defs.specs.Forms.{is_graphic}
use Rattle.rh_defs.specs.Line.{name_at, number_at, delta_at, is_negative, is_address, address_at, leaf_at, bytes_read_at}
use Rattle.rh_laws.proofs.Words.{is_whole, is_inner, all_pass}
use Rattle.rh_laws.proofs.Numbers.{number_of_decimal, decimal_is_decimal, hex_digits, decimal_is_whole, test_at}

-- ---- names and leafnames

letter_is_inner : (b : ℕ) → is_ascii_alphanumeric b ≡ true → is_inner b ≡ true
letter_is_inner b h = grind (arith, nat_tests, h)

graphic_is_inner : (b : ℕ) → is_graphic b ≡ true → is_inner b ≡ true
graphic_is_inner b h = grind (arith, nat_tests, h)

pub name_is_whole : (w : List ℕ) → is_name w ≡ true → is_whole w ≡ true
name_is_whole w h =
    let all = and_right _ (list_all is_ascii_alphanumeric w) h in
    let some = and_left (nat_le 1 (length w)) _ (and_left _ (is_ascii_alphabetic (slice_index w 0)) (and_left _
    (list_all is_ascii_alphanumeric w) h)) in
    rw (some, all_pass is_ascii_alphanumeric is_inner w letter_is_inner all) refl

pub name_read : (words : Words) (n : ℕ) → is_name (nth_word words n) ≡ true → name_at words n ≡ Ok (nth_word words n)
unfolding name_at
name_read words n h = rw h refl

pub leaf_is_whole : (w : List ℕ) → is_leaf w ≡ true → is_whole w ≡ true
leaf_is_whole w h =
    let all = and_right _ (list_all is_graphic w) h in
    let some = and_left (nat_le 1 (length w)) _ (and_left _ (list_all is_graphic w) h) in
    rw (some, all_pass is_graphic is_inner w graphic_is_inner all) refl

pub leaf_read : (words : Words) (n : ℕ) → is_leaf (nth_word words n) ≡ true → leaf_at words n ≡ Ok (nth_word words n)
unfolding leaf_at
leaf_read words n h = rw h refl

-- ---- numbers

pub number_read : (words : Words) (n low high k : ℕ) → nth_word words n ≡ decimal k → k < 2 ^ 32 →
    (nat_le low k && nat_le k high) ≡ true → number_at words n low high ≡ Ok k
unfolding number_at
number_read words n low high k is small range =
    rw (is, decimal_is_decimal k small, number_of_decimal k small, range) refl

-- ---- numbers with a sign

first_digit : (w : List ℕ) → nat_le 1 (length w) ≡ true → list_all is_ascii_digit w ≡ true → is_negative w ≡ false
first_digit [] some all = absurd cc
first_digit (b ∷ w) some all = digit_is_no_sign b (and_left (is_ascii_digit b) (list_all is_ascii_digit w) all)
  where
    digit_is_no_sign : (b : ℕ) → is_ascii_digit b ≡ true → (b == 45) ≡ false
    digit_is_no_sign b h = grind (arith, nat_tests, h)

decimal_has_no_sign : (n : ℕ) → n < 2 ^ 32 → is_negative (decimal n) ≡ false
unfolding is_decimal
decimal_has_no_sign n small =
    let is = decimal_is_decimal n small in
    let front = and_left _ (nat_le (length (decimal n)) 10) is in
    first_digit (decimal n) (and_right (list_all is_ascii_digit (decimal n)) _ front) (and_left _ (nat_le 1 (length
    (decimal n))) front)

pub delta_read : (words : Words) (n : ℕ) (by : ℤ) → nth_word words n ≡ signed_decimal by → is_delta by ≡ true →
    delta_at words n ≡ Ok by
unfolding delta_at
delta_read words n (pos k) is range =
    let small : k < 2 ^ 32 = grind (arith, nat_tests, range) in
    rw (is, decimal_has_no_sign k small, decimal_is_decimal k small, number_of_decimal k small, range) refl
delta_read words n (negsuc k) is range =
    let small : suc k < 2 ^ 32 = grind (arith, nat_tests, range) in
    let most : nat_le (suc k) GREATEST_NUMBER ≡ true = grind (arith, nat_tests, range) in
    rw (is, decimal_is_decimal (suc k) small, number_of_decimal (suc k) small, most) refl

pub delta_is_whole : (by : ℤ) → is_delta by ≡ true → is_whole (signed_decimal by) ≡ true
delta_is_whole (pos k) range = decimal_is_whole k (grind (arith, nat_tests, range))
delta_is_whole (negsuc k) range =
    let rest = decimal_is_whole (suc k) (grind (arith, nat_tests, range)) in
    rw (and_right _ (list_all is_inner (decimal (suc k))) rest) (grind (arith, nat_tests))

-- ---- addresses

pub address_read : (words : Words) (n place : ℕ) → nth_word words n ≡ address place → nat_lt place (2 ^ 32) ≡ true →
    address_at words n ≡ Ok place
unfolding address_at is_address address
address_read words n place is small =
    let known = hex_digits place (grind (arith, nat_tests, small)) in
    let some : nat_le 2 (suc (length (digits 16 true place))) ≡ true = grind (arith, nat_tests, known.some) in
    let few : nat_le (suc (length (digits 16 true place))) 9 ≡ true = grind (arith, nat_tests, known.few) in
    rw (is, some, few, known.pass, known.value) refl

pub address_is_whole : (place : ℕ) → nat_lt place (2 ^ 32) ≡ true → is_whole (address place) ≡ true
unfolding address
address_is_whole place small =
    let known = hex_digits place (grind (arith, nat_tests, small)) in
    rw known.inner (grind (arith, nat_tests))

-- ---- bytes

abbrev is_byte : ℕ → Bool
is_byte b = nat_lt b 256

byte_at : (bytes : List ℕ) → list_all is_byte bytes ≡ true → (i : ℕ) → slice_index bytes i < 256
byte_at [] h i = lit≤ tt
byte_at (b ∷ bytes) h zero = let small = and_left (is_byte b) (list_all is_byte bytes) h in grind (
  arith,
  nat_tests,
  small,
)
byte_at (b ∷ bytes) h (suc i) = byte_at bytes (and_right (is_byte b) (list_all is_byte bytes) h) i

pub bytes_read : (words : Words) (n : ℕ) (bytes : List ℕ) → nth_word words n ≡ encode_lower bytes →
    nat_le 1 (length bytes) ≡ true → list_all is_byte bytes ≡ true → bytes_read_at words n ≡ Ok bytes
unfolding bytes_read_at
bytes_read words n bytes is some small =
    let twice = length-encode_with lower_digits bytes in
    let has : nat_le 1 (length (encode_lower bytes)) ≡ true = grind (arith, nat_tests, some, twice) in
    rw (is, has, decode_of-encode_lower bytes (byte_at bytes small)) refl

lower_is_inner : (d : ℕ) → d < 16 → is_inner (slice_index lower_digits d) ≡ true
lower_is_inner d h = test_at (λ d. is_inner (slice_index lower_digits d)) 16 d refl h

encoded_inner : (bytes : List ℕ) → list_all is_byte bytes ≡ true → list_all is_inner (encode_lower bytes) ≡ true
unfolding encode_with
encoded_inner [] h = refl
encoded_inner (b ∷ bytes) h =
    let small : b < 256 = byte_at (b ∷ bytes) h 0 in
    rw (lower_is_inner (b / 16) (omega arith), lower_is_inner (b % 16) (omega arith))
    (encoded_inner bytes (and_right (is_byte b) (list_all is_byte bytes) h))

pub bytes_are_whole : (bytes : List ℕ) → nat_le 1 (length bytes) ≡ true → list_all is_byte bytes ≡ true →
    is_whole (encode_lower bytes) ≡ true
bytes_are_whole bytes some small =
    let twice = length-encode_with lower_digits bytes in
    let has : nat_le 1 (length (encode_lower bytes)) ≡ true = grind (arith, nat_tests, some, twice) in
    rw (has, encoded_inner bytes small) refl
