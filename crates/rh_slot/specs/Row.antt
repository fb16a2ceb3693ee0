-- The row of flex blocks in the words of an area: blocks that lie there, blocks that slid, and walks over them.
use Rattle.std.specs.Prelude.{◌≡◌, ℕ, ◌+◌, ◌*◌, ◌<◌, ◌≤◌, List, length, take}
use Rattle.rh_defs.specs.Bytes.{word}
use Rattle.rh_defs.specs.Pieces.{total}
use Rattle.rh_defs.specs.Slot.{Flex, Slot, weight, IsFree, HaveAnchors}
use Rattle.rh_defs.specs.SlotImage.{Lie, Anchored, flex_place}
use Rattle.rh_defs.specs.declared.sizes.TheConstants.{ANCHORS, WORD}
use Rattle.rh_slot.specs.declared.row.FlexWalk.{FlexWalk}

-- some blocks lie in n bytes from a place on
pub record BlockRow (b : List ℕ) (from n : ℕ) : Type 0 where
  pub blocks : List Flex
  pub lie : Lie b from blocks
  pub sum : total weight blocks ≡ n
  pub anchors : HaveAnchors blocks

-- the anchor words of these blocks lead to them, and the other anchor words stay
pub record Hung (b c : List ℕ) (at : ℕ) (blocks : List Flex) : Type 0 where
  pub anchored : Anchored c at blocks
  pub others : (k : ℕ) → k < ANCHORS → IsFree k blocks → word c (WORD * k) ≡ word b (WORD * k)

-- they also lie there
pub record Shifted (b c : List ℕ) (at : ℕ) (blocks : List Flex) : Type 0 where
  pub lie : Lie c at blocks
  pub hung : Hung b c at blocks

-- a walk that has passed so many of the slot's blocks and stands where they end
pub record WalksIn (s : Slot) (walk : FlexWalk) : Type 0 where
  pub most : walk.passed ≤ length s.blocks
  pub place_is : walk.place ≡ flex_place s + total weight (take walk.passed s.blocks)
