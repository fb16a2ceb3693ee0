-- Lists of bytes: words in little-endian order, ranges, and writes of several bytes.
-- b and c are lists of bytes, k is a place in them, w a word: four bytes, or the number that they spell.
-- A byte that is read past the end is 0, and one that is written there changes nothing.
use Rattle.std.specs.Prelude.{◌≡◌, ℕ, zero, suc, ◌+◌, ◌<◌, ◌≤◌, List, [], ◌∷◌, length, slice_index, slice_set}
use Rattle.std.specs.Int.{w32, from_le_bytes, to_le_bytes}

-- the byte of a space
abbrev pub space : ℕ
space = 32

-- the word of four bytes at a place
unfoldable pub word : List ℕ → ℕ → ℕ
word b at = from_le_bytes w32 (slice_index b at ∷ slice_index b (at + 1) ∷ slice_index b (at + 2) ∷ slice_index b (at + 3) ∷ [])

-- the bytes with others written over them from a place on
unfoldable pub with_part : List ℕ → ℕ → List ℕ → List ℕ
with_part b at [] = b
with_part b at (x ∷ xs) = with_part (slice_set b at x) (at + 1) xs

-- the bytes with a word written at a place
unfoldable pub put_word : List ℕ → ℕ → ℕ → List ℕ
put_word b at w = with_part b at (to_le_bytes w32 w)

-- the four bytes of a word
unfoldable pub word_bytes : ℕ → List ℕ
word_bytes w = to_le_bytes w32 w

-- n bytes from a place on
unfoldable pub part : List ℕ → ℕ → ℕ → List ℕ
part b at zero = []
part b at (suc n) = slice_index b at ∷ part b (at + 1) n

-- from lo up to hi the second list has the first one's bytes
pub record SameIn (b c : List ℕ) (lo hi : ℕ) : Type 0 where
  pub each : (k : ℕ) → lo ≤ k → k < hi → slice_index c k ≡ slice_index b k

-- the second list differs from the first at most from lo up to hi
pub record SameOutside (b c : List ℕ) (lo hi : ℕ) : Type 0 where
  pub len : length c ≡ length b
  pub below : (k : ℕ) → k < lo → slice_index c k ≡ slice_index b k
  pub above : (k : ℕ) → hi ≤ k → slice_index c k ≡ slice_index b k
