-- Wide slots: flex blocks of up to 4,096 anchors in lent bytes. Read Bytes and Pieces first.
-- b and c are the bytes before and after a call, s and t the slot, j and k anchors, n a number of bytes.
-- Each anchor has two words at the head of the bytes: the place of its block's first byte, 0 where it has none, and the
-- block's size. Places count from the first byte. Blocks lie from *base* up to *top*, and what is behind is free.
use Rattle.std.specs.Prelude.{◌≡◌, ◌≢◌, ℕ, zero, suc, ◌+◌, ◌*◌, ◌/◌, ◌%◌, ◌^◌, ◌<◌, ◌≤◌, ◌==◌, Bool, false, not, ◌&&◌, ◌||◌, if◌then◌else◌, List, length, Option, Some, None}
use Rattle.rh_defs.specs.Bytes.{word, part, SameIn}
use Rattle.rh_defs.specs.declared.sizes.TheConstants.{ANCHORS}
use Rattle.rh_store.specs.Limits.{area_limit}
use Rattle.rh_wide_slot.specs.declared.slot.TheConstants.{MOST_ANCHORS}
use Rattle.rh_wide_slot.specs.declared.slot.WideSlot.{WideSlot}

-- where the anchor's block begins, and how many bytes it has
abbrev pub row_place : List ℕ → ℕ → ℕ
row_place b k = word b (8 * k)

abbrev pub row_size : List ℕ → ℕ → ℕ
row_size b k = word b (8 * k + 4)

-- the block of an anchor, none where the place is 0
unfoldable pub row_block : List ℕ → ℕ → Option (List ℕ)
row_block b k = if row_place b k == 0 then None else Some (part b (row_place b k) (row_size b k))

-- what a block of n bytes takes: its bytes, and one to eight more
abbrev pub wide_weight : ℕ → ℕ
wide_weight n = 8 * (n / 8 + 1)

-- what an anchor's block takes
abbrev pub taken_by : Option (List ℕ) → ℕ
taken_by None = 0
taken_by (Some bytes) = wide_weight (length bytes)

-- where the block ends
abbrev pub end_of : List ℕ → ℕ → ℕ
end_of b k = row_place b k + wide_weight (row_size b k)

-- a slot may have so many anchors
abbrev pub IsAnchorCount : ℕ → Type 0
IsAnchorCount n = (ANCHORS ≤ n) × (n ≤ MOST_ANCHORS)

-- the bytes, 1 GiB at most, hold the slot's anchor words and blocks; no block lies over another
pub record IsWideSlot (b : List ℕ) (s : WideSlot) : Type 0 where
  pub few : length b ≤ area_limit
  pub count : IsAnchorCount s.anchors
  pub table : 8 * s.anchors ≤ s.base
  pub up : s.base ≤ s.top
  pub within : s.top ≤ length b
  pub whole_base : s.base % 8 ≡ 0
  pub whole_top : s.top % 8 ≡ 0
  pub whole : (k : ℕ) → k < s.anchors → row_place b k % 8 ≡ 0
  pub low : (k : ℕ) → k < s.anchors → row_place b k ≢ 0 → s.base ≤ row_place b k
  pub high : (k : ℕ) → k < s.anchors → row_place b k ≢ 0 → end_of b k ≤ s.top
  pub apart : (j k : ℕ) → j < s.anchors → k < s.anchors → j ≢ k → row_place b j ≢ 0 → row_place b k ≢ 0
      → row_place b j ≤ row_place b k → end_of b j ≤ row_place b k

-- ---- what a call leaves

-- the anchor has a block before and after, and it begins elsewhere
abbrev pub has_moved : List ℕ → List ℕ → ℕ → Bool
has_moved b c k = not (row_place b k == 0) && not (row_place c k == 0) && not (row_place b k == row_place c k)

-- that is so of one of the first n anchors
unfoldable pub any_moved : ℕ → List ℕ → List ℕ → Bool
any_moved zero b c = false
any_moved (suc n) b c = any_moved n b c || has_moved b c n

-- one slide more where that is so; behind the last number of 32 bits comes 0
abbrev pub slides_if : Bool → ℕ → ℕ
slides_if moved n = if moved then (n + 1) % 2 ^ 32 else n

-- a call that leaves the anchor this block: every other block is as it was, and room goes to the block or comes from it
pub record Leaves (b c : List ℕ) (s t : WideSlot) (k : ℕ) (block : Option (List ℕ)) : Type 0 where
  pub still : IsWideSlot c t
  pub len : length c ≡ length b
  pub block_is : row_block c k ≡ block
  pub others : (j : ℕ) → j < s.anchors → j ≢ k → row_block c j ≡ row_block b j
  pub anchors : t.anchors ≡ s.anchors
  pub base : t.base ≡ s.base
  pub top : t.top + taken_by (row_block b k) ≡ s.top + taken_by block
  pub slides : t.slides ≡ slides_if (any_moved s.anchors b c) s.slides
  pub below : SameIn b c (8 * s.anchors) s.base
