-- Words of four bytes.
use Rattle.std.specs.Prelude.{ℕ, List, take, drop}
use Rattle.std.specs.Int.{from_le_bytes, w32}

-- the little-endian word at the index i
abbrev pub word_at : List ℕ → ℕ → ℕ
word_at s i = from_le_bytes w32 (take 4 (drop i s))
