-- Bytes up to the first zero, bytes one after the other, and what has room.
use Rattle.std.proofs.Common.{ℕ, ◌+◌, ◌-◌, ◌*◌, ◌/◌, ◌<◌, ◌≡◌, Bool, true, false, refl, sym, ap, arith, List, [], ◌∷◌, ◌++◌}
use Rattle.std.proofs.Common.{length, length-append, take, drop, get_or, add-one, drop-cons}
use Rattle.std.specs.Prelude.{◌==◌, ◌≤◌, nat_le, if◌then◌else◌}
use Rattle.std.specs.List.{flat_map}
use Rattle.std.proofs.lemmas.Bool.Decides.{nat_tests}
use Rattle.hex.specs.Hex.{encode_lower, lower_digits}
use Rattle.hex.proofs.HexLemmas.{length-encode_with}
use Rattle.rh_lens.specs.ByteWords.{before_zero, pair_behind, pairs}

before-step : (t : Bool) (b : ℕ) (bs : List ℕ) → take (length (before_zero bs)) bs ≡ before_zero bs
    → take (length (if t then [] else b ∷ before_zero bs)) (b ∷ bs) ≡ (if t then [] else b ∷ before_zero bs)
before-step true b bs e = refl
before-step false b bs e = ap (λ xs. b ∷ xs) e

-- the bytes before the first zero are the first ones
pub take-before : (bs : List ℕ) → take (length (before_zero bs)) bs ≡ before_zero bs
take-before [] = refl
take-before (b ∷ bs) = before-step (b == 0) b bs (take-before bs)

-- the bytes from a place on are the one there and those behind it
pub next-byte : (bs : List ℕ) (i d : ℕ) → i < length bs → drop i bs ≡ get_or bs i d ∷ drop (i + 1) bs
next-byte bs i d low = rw (add-one, drop-cons bs i d)

-- a text has room where there are as many letters
pub has-letters : (n w : ℕ) → 6 ≤ w → nat_le n ((w - 6) / 7) ≡ nat_le (7 * n + 6) w
has-letters n w wide = grind (arith, nat_tests)

-- a row with the digits of some bytes behind it
pub digits-behind : (row new bytes : List ℕ) → new ≡ row ++ encode_lower bytes → length new ≡ length row + 2 * length bytes
digits-behind row new bytes e =
    omega (arith, ap length e, length-append row (encode_lower bytes), length-encode_with lower_digits bytes)

length-digits : (bs : List ℕ) → length (encode_lower bs) ≡ 2 * length bs
length-digits bs = length-encode_with lower_digits bs

length-behind : (bs : List ℕ) → length (flat_map pair_behind bs) ≡ 3 * length bs
length-behind [] = refl
length-behind (b ∷ bs) = omega (
  arith,
  length-append (pair_behind b) (flat_map pair_behind bs),
  length-digits (b ∷ []),
  length-behind bs,
)

-- each byte but the last is followed by a space
pub length-pairs : (bs : List ℕ) → length (pairs bs) ≡ 3 * length bs - 1
length-pairs [] = refl
length-pairs (b ∷ bs) = omega (
  arith,
  length-append (encode_lower (b ∷ [])) (flat_map pair_behind bs),
  length-digits (b ∷ []),
  length-behind bs,
)

-- bytes have room where as many digits and spaces have
pub pairs-room : (w : ℕ) (bs : List ℕ) → nat_le (7 * (3 * length bs - 1) + 6) w ≡ nat_le (7 * length (pairs bs) + 6) w
pairs-room w bs = ap (λ n. nat_le (7 * n + 6) w) (sym (length-pairs bs))
