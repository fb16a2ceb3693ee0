-- Blocks that have moved together, and words of anchors that were written.
use Rattle.std.specs.Prelude.{◌≡◌, ◌≢◌, ℕ, zero, suc, ◌+◌, ◌-◌, ◌*◌, ◌<◌, ◌≤◌, Bool, false, nat_le, ◌||◌, if◌then◌else◌, List, ◌++◌, length, take, drop, ◌⊎◌, slice_index}
use Rattle.rh_defs.specs.Bytes.{part, put_word}
use Rattle.rh_defs.specs.Pieces.{zeros}
use Rattle.rh_wide_slot.specs.WideSlots.{end_of, row_place, row_size, slides_if}
use Rattle.rh_wide_slot.specs.declared.slot.WideSlot.{WideSlot}

-- the bytes with both words of an anchor written
abbrev pub with_entry : List ℕ → ℕ → ℕ → ℕ → List ℕ
with_entry b k place size = put_word (put_word b (8 * k) place) (8 * k + 4) size

-- where a place has come to when all from one on have moved
abbrev pub moved_place : ℕ → ℕ → ℕ → ℕ
moved_place from to p = if nat_le from p then to + (p - from) else p

-- one of the first n blocks begins there or above
unfoldable pub any_from : ℕ → ℕ → List ℕ → Bool
any_from from zero b = false
any_from from (suc n) b = any_from from n b || nat_le from (row_place b n)

-- the places of the first n blocks have moved, all else is as it was
pub record ToldBelow (b c : List ℕ) (from to n : ℕ) : Type 0 where
  pub len : length c ≡ length b
  pub places : (j : ℕ) → j < n → row_place c j ≡ moved_place from to (row_place b j)
  pub sizes : (j : ℕ) → j < n → row_size c j ≡ row_size b j
  pub above : (i : ℕ) → 8 * n ≤ i → slice_index c i ≡ slice_index b i

-- each block ends below both, or begins at the first or above
abbrev pub IsClear : List ℕ → ℕ → ℕ → ℕ → Type 0
IsClear b n from to = (j : ℕ) → j < n → row_place b j ≢ 0
    → ((end_of b j ≤ from) × (end_of b j ≤ to)) ⊎ (from ≤ row_place b j)

-- all bytes from a place up to the top have moved, and the anchors' words with them
pub record Shifts (b c : List ℕ) (s t : WideSlot) (from to : ℕ) : Type 0 where
  pub len : length c ≡ length b
  pub places : (j : ℕ) → j < s.anchors → row_place c j ≡ moved_place from to (row_place b j)
  pub sizes : (j : ℕ) → j < s.anchors → row_size c j ≡ row_size b j
  pub low : (i : ℕ) → 8 * s.anchors ≤ i → i < from → i < to → slice_index c i ≡ slice_index b i
  pub parts : (p n : ℕ) → from ≤ p → p + n ≤ s.top → part c (to + (p - from)) n ≡ part b p n
  pub anchors : t.anchors ≡ s.anchors
  pub base : t.base ≡ s.base
  pub top : t.top ≡ to + (s.top - from)
  pub slides : t.slides ≡ slides_if (any_from from s.anchors b) s.slides

-- the words of one anchor are written, and bytes between two places
pub record Edits (b c : List ℕ) (k place size lo hi : ℕ) : Type 0 where
  pub len : length c ≡ length b
  pub place_is : row_place c k ≡ place
  pub size_is : row_size c k ≡ size
  pub places : (j : ℕ) → 8 * j + 8 ≤ lo → j ≢ k → row_place c j ≡ row_place b j
  pub sizes : (j : ℕ) → 8 * j + 8 ≤ lo → j ≢ k → row_size c j ≡ row_size b j
  pub below : (i : ℕ) → 8 * k + 8 ≤ i → i < lo → slice_index c i ≡ slice_index b i
  pub above : (i : ℕ) → 8 * k + 8 ≤ i → hi ≤ i → slice_index c i ≡ slice_index b i

-- the bytes with some before an offset taken out, and then zeros put in
abbrev pub spliced : ℕ → ℕ → ℕ → List ℕ → List ℕ
spliced offset out put bytes = take (offset - out) bytes ++ (zeros put ++ drop offset bytes)
