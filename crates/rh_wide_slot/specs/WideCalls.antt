-- The calls on a block of a wide slot: the refusals of each, and what it leaves of the block. Read WideSlots first.
-- *room* is how many bytes are free behind the blocks.
use Rattle.std.specs.Prelude.{◌≡◌, ℕ, ◌+◌, ◌-◌, ◌*◌, ◌<◌, ℤ, nat_lt, ◌||◌, List, length, take, drop, Option, Some, None, Ok, is_some, IfOk, OnErr}
use Rattle.rh_defs.specs.Bytes.{SameIn}
use Rattle.rh_defs.specs.Chain.{Granted, ◌>>=◌, answer_of, found_or, outcome_of, refuse_if}
use Rattle.rh_defs.specs.Heap.{fitted}
use Rattle.rh_defs.specs.Pieces.{moved, round_up, written, zeros}
use Rattle.rh_defs.specs.Slot.{opened_at, taken_out}
use Rattle.rh_defs.specs.declared.refusal.Refusal.TheVariants.{AnchorInUse, BadRange, NoBlock, NoRoom}
use Rattle.rh_wide_slot.specs.WideSlots.{IsWideSlot, Leaves, any_moved, row_block, row_place, slides_if, wide_weight}
use Rattle.rh_wide_slot.specs.declared.slot.WideSlot.{WideSlot}

-- a block of n zeros
unfoldable pub wide_alloc : ℕ → ℕ → Option (List ℕ) → Granted (Option (List ℕ))
wide_alloc room n block = do
  _ ← refuse_if (is_some block) AnchorInUse
  _ ← refuse_if (nat_lt room (wide_weight n)) NoRoom
  Ok (Some (zeros n))

-- the block away
unfoldable pub wide_free : Option (List ℕ) → Granted (Option (List ℕ))
wide_free block = do
  _ ← found_or block NoBlock
  Ok None

-- the block cut to n bytes, or with zeros up to n
unfoldable pub wide_extend : ℕ → ℕ → Option (List ℕ) → Granted (Option (List ℕ))
wide_extend room n block = do
  bytes ← found_or block NoBlock
  _ ← refuse_if (nat_lt room (wide_weight n - wide_weight (length bytes))) NoRoom
  Ok (Some (fitted n bytes))

-- zeros put into the block at an offset, or the bytes before it taken out
unfoldable pub wide_mid : ℕ → ℕ → ℤ → Option (List ℕ) → Granted (Option (List ℕ))
wide_mid room offset by block = do
  bytes ← found_or block NoBlock
  _ ← refuse_if (nat_lt (length bytes) offset || nat_lt offset (taken_out by)) BadRange
  _ ← refuse_if (nat_lt room (wide_weight (moved (length bytes) by) - wide_weight (length bytes))) NoRoom
  Ok (Some (opened_at offset by bytes))

-- bytes written into the block, from an offset on
unfoldable pub wide_put : ℕ → List ℕ → Option (List ℕ) → Granted (Option (List ℕ))
wide_put offset new block = do
  bytes ← found_or block NoBlock
  _ ← refuse_if (nat_lt (length bytes) (offset + length new)) BadRange
  Ok (Some (written bytes offset new))

-- n bytes of the block, from an offset on
unfoldable pub wide_read : ℕ → ℕ → Option (List ℕ) → Granted (List ℕ)
wide_read offset n block = do
  bytes ← found_or block NoBlock
  _ ← refuse_if (nat_lt (length bytes) (offset + n)) BadRange
  Ok (take n (drop offset bytes))

-- the block's size
unfoldable pub wide_size : Option (List ℕ) → Granted ℕ
wide_size block = do
  bytes ← found_or block NoBlock
  Ok (length bytes)

-- where the block begins
unfoldable pub wide_place : List ℕ → ℕ → Granted ℕ
wide_place b k = do
  _ ← found_or (row_block b k) NoBlock
  Ok (row_place b k)

-- so many bytes below the blocks in whole eights, and where they begin
unfoldable pub wide_budge : ℕ → ℕ → WideSlot → Granted (ℕ × ℕ)
wide_budge room n s = do
  _ ← refuse_if (nat_lt room (round_up 8 n)) NoRoom
  Ok (round_up 8 n, s.base)

-- how many bytes are free behind the blocks
abbrev pub room_in : List ℕ → WideSlot → ℕ
room_in b s = length b - s.top

-- A call on an anchor's block that is granted this: it is done or refused so, and leaves the block so; where it is
-- refused all stays.
pub record LeavesWide (b c : List ℕ) (s t : WideSlot) (k : ℕ) (granted : Granted (Option (List ℕ)))
    (outcome : Granted (Unit {0})) : Type 0 where
  pub answer : outcome ≡ outcome_of granted
  pub left : IfOk granted (Leaves b c s t k)
  pub err : OnErr granted ((c ≡ b) × (t ≡ s))

-- a call that gives so many bytes below the blocks leaves this: all blocks are as they were
pub record Budged (b c : List ℕ) (s t : WideSlot) (by : ℕ) : Type 0 where
  pub still : IsWideSlot c t
  pub len : length c ≡ length b
  pub blocks : (j : ℕ) → j < s.anchors → row_block c j ≡ row_block b j
  pub anchors : t.anchors ≡ s.anchors
  pub base : t.base ≡ s.base + by
  pub top : t.top ≡ s.top + by
  pub slides : t.slides ≡ slides_if (any_moved s.anchors b c) s.slides
  pub below : SameIn b c (8 * s.anchors) s.base

-- A call that gives bytes below the blocks is granted or refused so, and answers so; where it is refused all stays.
pub record LeavesBudged (b c : List ℕ) (s t : WideSlot) (granted : Granted (ℕ × ℕ)) (result : Granted ℕ) : Type 0 where
  pub answer : result ≡ answer_of granted
  pub left : IfOk granted (λ p. Budged b c s t p.0)
  pub err : OnErr granted ((c ≡ b) × (t ≡ s))
