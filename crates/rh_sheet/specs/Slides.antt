-- How far flex blocks slide: the one arrow of a figure stands for all of them. Read Slot and Questions of rh_defs
-- first. k is an anchor, a and b are its block's addresses before and now, s and t slots before and now.
use Rattle.std.specs.Prelude.{◌≡◌, ◌⊎◌, ℕ, ◌+◌, ℤ, List, Option, Some, Ok, Err}
use Rattle.std.specs.Option.{option_map}
use Rattle.rh_defs.specs.declared.question.BlockItem.{BlockItem}
use Rattle.rh_defs.specs.Chain.{Granted}
use Rattle.rh_defs.specs.Slot.{Slot, IsSlot, slot_alloc, slot_free, slot_extend, slot_mid, slot_put, slot_claim, slot_release, slot_resize}
use Rattle.rh_defs.specs.Questions.{block_items}
use Rattle.rh_figure.specs.Changes.{item_with_anchor}

-- the address of an anchor's block, where it has one
abbrev pub address_in : ℕ → List BlockItem → Option ℕ
address_in k items = option_map (λ (b : BlockItem). b.address) (item_with_anchor k items)

-- Each block that is there before and now lies where it lay, or has slid: all of them the same way, and equally far.
pub record SlideAlike (before now : List BlockItem) : Type 0 where
  pub up : ℕ
  pub down : ℕ
  pub each : (k a b : ℕ) → address_in k before ≡ Some a → address_in k now ≡ Some b → (a ≡ b) ⊎ (a + up ≡ b + down)

-- each block of a slot lies where it lay in another, or has slid: all of them the same way, and equally far
abbrev pub Slides : Slot → Slot → Type 0
Slides s t = SlideAlike (block_items s) (block_items t)

-- what holds of a grant, and nothing of a refusal
abbrev pub OnGranted : {A : Type 0} → (A → Type 0) → Granted A → Type 0
OnGranted P (Ok x) = P x
OnGranted P (Err refusal) = Unit {0}

-- all calls that change a slot
pub record SlidesEqually (s : Slot) : Type 0 where
  pub alloc : (free k n : ℕ) → OnGranted (λ (p : Slot × ℕ). Slides s p.0) (slot_alloc free k n s)
  pub free : (k : ℕ) → OnGranted (Slides s) (slot_free k s)
  pub extend : (free k n : ℕ) → OnGranted (Slides s) (slot_extend free k n s)
  pub mid : (free k offset : ℕ) (by : ℤ) → OnGranted (Slides s) (slot_mid free k offset by s)
  pub put : (k offset : ℕ) (bytes : List ℕ) → OnGranted (Slides s) (slot_put k offset bytes s)
  pub claim : (free n : ℕ) → OnGranted (λ (p : Slot × ℕ). Slides s p.0) (slot_claim free n s)
  pub release : (address : ℕ) → OnGranted (Slides s) (slot_release address s)
  pub resize :
      (free address : ℕ) (delta : ℤ) → OnGranted (λ (p : Slot × ℕ). Slides s p.0) (slot_resize free address delta s)

-- at each call all blocks of a slot that slide do so equally far
abbrev pub SlideInSlots : Type 0
SlideInSlots = (s : Slot) → IsSlot s → SlidesEqually s
