-- Flex blocks found by their anchors, and changed.
use Rattle.std.specs.Prelude.{◌≡◌, ℕ, ◌+◌, ◌-◌, ◌≤◌, List, ◌∷◌, ◌++◌, length, take, drop, Ok}
use Rattle.rh_defs.specs.Chain.{Granted, ◌>>=◌, refuse_if}
use Rattle.rh_defs.specs.Pieces.{total, zeros, Split}
use Rattle.rh_defs.specs.Slot.{Flex, Slot, weight, flex_weight, slot_length, lacks_room, length_with, with_block_bytes, IsFree}
use Rattle.rh_defs.specs.SlotImage.{flex_place}
use Rattle.rh_defs.specs.declared.refusal.Refusal.TheVariants.{NoRoom}

-- the block at the cut is the anchor's, its header stands at the place, and it has so many bytes
pub record FoundAt (k : ℕ) (s : Slot) (place size : ℕ) (cut : Split Flex) : Type 0 where
  pub is : s.blocks ≡ cut.before ++ cut.here ∷ cut.after
  pub anchor : cut.here.anchor ≡ k
  pub free : IsFree k cut.before
  pub stands : place ≡ flex_place s + total weight cut.before
  pub long : size ≡ length cut.here.bytes
  pub low : flex_place s ≤ place
  pub inside : place + flex_weight size ≤ slot_length s

-- the anchor has such a block
pub record FoundFlex (k : ℕ) (s : Slot) (place size : ℕ) : Type 0 where
  pub cut : Split Flex
  pub at : FoundAt k s place size cut

-- the bytes with some before an offset taken out, and then zeros put in
abbrev pub spliced : ℕ → ℕ → ℕ → List ℕ → List ℕ
spliced offset out put bytes = take (offset - out) bytes ++ (zeros put ++ drop offset bytes)

-- the slot with the bytes of the block at a cut so changed, where so many pages are free
unfoldable pub splice : ℕ → ℕ → ℕ → ℕ → Split Flex → Slot → Granted Slot
splice free offset out put b s = do
  _ ← refuse_if (lacks_room free (length_with b (length b.here.bytes - out + put) s) s) NoRoom
  Ok (with_block_bytes b (spliced offset out put b.here.bytes) s)
