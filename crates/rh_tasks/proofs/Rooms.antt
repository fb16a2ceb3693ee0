-- A buffer and then an empty document are granted just where the pages that both take are free.
use Rattle.rh_tasks.proofs.Common.{◌≡◌, ℕ, zero, suc, ◌+◌, ◌-◌, ◌≤◌, ◌<◌, Bool, true, false, ◌⊎◌, inl, inr, cond, refl, ap, sym, ◌∙◌, arith, List, [], ◌∷◌}
use Rattle.rh_tasks.proofs.Common.{Option, Some, None, Ok, Err, is_some, ◌==◌, option_map, BadSize, NoRoom, Granted, ◌>>=◌, refuse_if, page_size, pages_for}
use Rattle.rh_tasks.proofs.Common.{zeros}
use Rattle.rh_tasks.proofs.Common.{Split, first_at, Heap, need, claim_growing, Slot, Flex, weight, flex_address, slot_length, slot_alloc, slot_claim}
use Rattle.rh_tasks.proofs.Common.{slot_take_pages, flex_start, anchor_count, IsFreeAnchor, lt-true, lt-false}
use Rattle.rh_defs.specs.declared.refusal.Refusal.TheVariants.{NoBudge}
use Rattle.rh_defs.specs.Pieces.{round_up, behind}
use Rattle.rh_defs.specs.Slot.{flex_weight, slot_pages, is_used, is_stuck, with_heap, with_block, with_placed}
use Rattle.rh_defs.specs.Places.{free_from}
use Rattle.rh_tasks.proofs.SendRooms.{where_free}

-- ---- what is given where so many pages are free

module _ {A : Type 0} (free pages : ℕ) (x : A) where
  pub free-given : pages ≤ free → where_free free x pages ≡ Ok x
  unfolding refuse_if ◌>>=◌
  free-given room = ap (λ b. refuse_if b NoRoom >>= (λ _. let r : Granted A = Ok x in r)) (lt-false free pages room)

  pub free-lacking : free < pages → where_free free x pages ≡ Err NoRoom
  unfolding refuse_if ◌>>=◌
  free-lacking short = ap (λ b. refuse_if b NoRoom >>= (λ _. let r : Granted A = Ok x in r)) (lt-true free pages short)

-- ---- the calls by the pages that they take

-- the slot with the buffer, and its address
abbrev pub claimed : ℕ → Slot → Slot × ℕ
claimed n s = with_placed (claim_growing n s.heap) s

-- the pages of both
abbrev pub both_pages : ℕ → Slot → ℕ
both_pages n s = pages_for (slot_length s + round_up page_size (need n s.heap) + flex_weight 0) - slot_pages s

pub claim-by_pages : (free n : ℕ) (s : Slot) → slot_claim free n s ≡ (slot_take_pages n s >>= (λ _. where_free free (claimed n s) (pages_for (need n s.heap))))
unfolding slot_claim slot_take_pages ◌>>=◌ refuse_if
claim-by_pages free n s = go (n == 0) (is_stuck (need n s.heap) s)
  where
    go : (a b : Bool)
        → (refuse_if a BadSize >>= (λ _. refuse_if b NoBudge >>= (λ _. where_free free (claimed n s) (pages_for (need n s.heap)))))
        ≡ ((refuse_if a BadSize >>= (λ _. refuse_if b NoBudge >>= (λ _. let r : Granted ℕ = Ok (both_pages n s) in r)))
        >>= (λ _. where_free free (claimed n s) (pages_for (need n s.heap))))
    go true b = refl
    go false true = refl
    go false false = refl

pub take-is : (n p : ℕ) (s : Slot) → slot_take_pages n s ≡ Ok p → p ≡ both_pages n s
unfolding slot_take_pages ◌>>=◌ refuse_if
take-is n p s e = go (n == 0) (is_stuck (need n s.heap) s) e
  where
    go : (a b : Bool) → (refuse_if a BadSize >>= (λ _. refuse_if b NoBudge >>= (λ _. let r : Granted ℕ = Ok (both_pages n s) in r))) ≡ Ok p → p ≡ both_pages n s
    go true b f = absurd cc
    go false true f = absurd cc
    go false false f = let same : both_pages n s ≡ p = cc in sym same

-- the slot with an empty document, and its address
abbrev pub documented : ℕ → Slot → Slot × ℕ
documented k s = (with_block k (zeros 0) s, flex_address s s.blocks)

pub alloc-by_pages : (free k : ℕ) (s : Slot) → is_used k s ≡ false
    → slot_alloc free k 0 s ≡ where_free free (documented k s) (pages_for (slot_length s + flex_weight 0) - slot_pages s)
unfolding slot_alloc ◌>>=◌ refuse_if
alloc-by_pages free k s e = rw e refl

-- ---- an anchor without a block

-- the first member that passes a test of itself doesn't depend on the place
found-anywhere : {A : Type 0} (size : A → ℕ) (test : A → Bool) (a b : ℕ) (xs : List A)
    → is_some (first_at size (λ _ x. test x) a xs) ≡ is_some (first_at size (λ _ x. test x) b xs)
found-anywhere size test a b [] = refl
found-anywhere {A} size test a b (x ∷ xs) = go (test x) _ _ (found-anywhere size test (a + size x) (b + size x) xs)
  where
    here : Option (Split A)
    here = Some (record { before = []; here = x; after = xs })

    mapped : (o : Option (Split A)) → is_some (option_map (behind x) o) ≡ is_some o
    mapped None = refl
    mapped (Some s) = refl

    go : (t : Bool) (o p : Option (Split A)) → is_some o ≡ is_some p
        → is_some (cond t here (option_map (behind x) o)) ≡ is_some (cond t here (option_map (behind x) p))
    go true o p e = refl
    go false o p e = mapped o ∙ e ∙ sym (mapped p)

pub unused-above : (k : ℕ) (h : Heap) (s : Slot) → is_used k s ≡ false → is_used k (with_heap h s) ≡ false
unused-above k h s e = found-anywhere weight (λ (b : Flex). b.anchor == k) (flex_start (with_heap h s)) (flex_start s) s.blocks ∙ e

-- a test that is known chooses
chosen-some : (b : Bool) (o : Option ℕ) (a k : ℕ) → cond b o (Some a) ≡ Some k → (b ≡ true) × (o ≡ Some k) ⊎ (b ≡ false) × (a ≡ k)
chosen-some true o a k e = inl (refl, e)
chosen-some false o a k e = inr (refl, cc)

pub free_from-unused : (a n k : ℕ) (s : Slot) → free_from a n s ≡ Some k → is_used k s ≡ false
free_from-unused a zero k s e = absurd cc
free_from-unused a (suc n) k s e = elim (chosen-some (is_used a s) (free_from (a + 1) n s) a k e) [
  | inl later ↦ free_from-unused (a + 1) n k s later.1
  | inr here ↦ ap (λ j. is_used j s) (sym here.1) ∙ here.0
]

pub free_from-low : (a n k : ℕ) (s : Slot) → free_from a n s ≡ Some k → k < a + n
free_from-low a zero k s e = absurd cc
free_from-low a (suc n) k s e = elim (chosen-some (is_used a s) (free_from (a + 1) n s) a k e) [
  | inl later ↦ omega (arith, free_from-low (a + 1) n k s later.1)
  | inr here ↦ omega (arith, here.1)
]

pub anchor-unused : (k : ℕ) (s : Slot) → IsFreeAnchor k s → is_used k s ≡ false
anchor-unused k s free = free_from-unused 0 anchor_count k s free.is

pub anchor-low : (k : ℕ) (s : Slot) → IsFreeAnchor k s → k < anchor_count
anchor-low k s free = omega (arith, free_from-low 0 anchor_count k s free.is)
