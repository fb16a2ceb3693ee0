-- A row of numbers, and over them the larger of each two.
use Rattle.std.specs.Prelude.{◌≡◌, ◌≢◌, ℕ, ◌+◌, ◌*◌, ◌/◌, ◌^◌, ◌<◌, ◌≤◌, ◌⊎◌, max, List, length, slice_index}

-- the number in place i: numbers stand in the upper half of the words
abbrev pub peak : List ℕ → ℕ → ℕ
peak nodes i = slice_index nodes (length nodes / 2 + i)

-- each word of the lower half is the larger of the two below it
abbrev pub AreLarger : List ℕ → Type 0
AreLarger nodes = (k : ℕ) → 0 < k → k < length nodes / 2 → slice_index nodes k ≡ max (slice_index nodes (2 * k)) (slice_index nodes (2 * k + 1))

-- a row has no word, or a power of two of numbers
abbrev pub HasWidth : ℕ → Type 0
HasWidth n = (n ≡ 0) ⊎ ((d : ℕ) × (n ≡ 2 * 2 ^ d))

-- so wide a row whose lower half has the larger of each two
pub record IsTree (nodes : List ℕ) : Type 0 where
  pub width : HasWidth (length nodes)
  pub larger : AreLarger nodes

-- i is the first place whose number is t or more
pub record FirstPeak (nodes : List ℕ) (t i : ℕ) : Type 0 where
  pub within : i < length nodes / 2
  pub fits : t ≤ peak nodes i
  pub none : (j : ℕ) → j < i → peak nodes j < t

-- j is the last place below i whose number isn't 0
pub record LastPeak (nodes : List ℕ) (i j : ℕ) : Type 0 where
  pub below : j < i
  pub some : peak nodes j ≢ 0
  pub none : (l : ℕ) → j < l → l < i → peak nodes l ≡ 0
