-- What a check of a slot's row counts.
use Rattle.std.specs.Prelude.{◌≡◌, ℕ, zero, suc, ◌+◌, ◌*◌, ◌≤◌, ◌==◌, if◌then◌else◌, List, length}
use Rattle.rh_defs.specs.Bytes.{word}
use Rattle.rh_defs.specs.Pieces.{total}
use Rattle.rh_defs.specs.Slot.{weight}
use Rattle.rh_defs.specs.SlotImage.{flex_in}
use Rattle.rh_slot.specs.declared.image.BlockSums.{BlockSums}
use Rattle.rh_slot.specs.SlotChecks.{flex_size}

-- the sums of the blocks that stand one after the other from a place on; none of them goes past the end
pub record IsRow (b : List ℕ) (from : ℕ) (sums : BlockSums) : Type 0 where
  pub top : sums.top ≡ from + total weight (flex_in (length b) b from)
  pub within : sums.top ≤ length b
  pub blocks : sums.blocks ≡ length (flex_in (length b) b from)
  pub bytes : sums.bytes ≡ total flex_size (flex_in (length b) b from)

-- how many of the first n anchor words aren't 0
unfoldable pub words_in_use : List ℕ → ℕ → ℕ
words_in_use b zero = 0
words_in_use b (suc n) = words_in_use b n + (if word b (4 * n) == 0 then 0 else 1)
