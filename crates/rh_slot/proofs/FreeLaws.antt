-- The walk that looks for an anchor without a block.
use Rattle.rh_slot.proofs.Common.{◌≡◌, ℕ, suc, ◌+◌, ◌-◌, ◌<◌, ◌≤◌, true, refl, sym, ap, ◌∙◌, arith, Some, None, is_some, Slot, IsFree, anchor_count}
use Rattle.rh_slot.proofs.Common.{cond_true, cond_false, block_of-at, FoundFlex}
use Rattle.rh_defs.specs.Places.{free_anchor, free_from}
use Rattle.rh_defs.specs.Slot.{is_used}
use Rattle.rh_defs.proofs.SlotLaws.{block_of-none}

-- the anchors below k have blocks
pub record AllUsed (s : Slot) (k : ℕ) : Type 0 where
  pub most : k ≤ anchor_count
  pub from : free_anchor s ≡ free_from k (anchor_count - k) s

pub used_start : (s : Slot) → AllUsed s 0
used_start s = record { most = omega arith; from = refl }

one_more : (s : Slot) (k : ℕ) → k < anchor_count → free_from k (anchor_count - k) s ≡ free_from k (suc ((anchor_count - 1) - k)) s
one_more s k h = let e : anchor_count - k ≡ suc ((anchor_count - 1) - k) = omega arith in ap (λ r. free_from k r s) e

pub used_next : (s : Slot) (k place size : ℕ) → AllUsed s k → k < anchor_count → FoundFlex k s place size → AllUsed s (k + 1)
used_next s k place size a h f =
    let used : is_used k s ≡ true = ap (λ o. is_some o) (block_of-at k s f.cut f.at.is f.at.free f.at.anchor) in
    let e : (anchor_count - 1) - k ≡ anchor_count - (k + 1) = omega arith in
    record { most = omega arith; from = a.from ∙ one_more s k h ∙ cond_true (is_used k s) _ _ used ∙ ap (λ r. free_from (k + 1) r s) e }

pub free_here : (s : Slot) (k : ℕ) → AllUsed s k → k < anchor_count → IsFree k s.blocks → Some k ≡ free_anchor s
free_here s k a h u = sym (a.from ∙ one_more s k h ∙ cond_false (is_used k s) _ _ (ap (λ o. is_some o) (block_of-none k s u)))

pub none_free : (s : Slot) (k : ℕ) → AllUsed s k → anchor_count ≤ k → None ≡ free_anchor s
none_free s k a h = let e : anchor_count - k ≡ 0 = omega arith in sym (a.from ∙ ap (λ r. free_from k r s) e)
