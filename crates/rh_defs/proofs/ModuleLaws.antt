-- Laws of the module area's calls, in the words of the heap's, and of a heap whose bytes are kept.
use Rattle.rh_defs.proofs.Common.{◌≡◌, ℕ, ◌+◌, ◌-◌, ◌<◌, ◌≤◌, ◌≢◌, true, false, eqb, ltb, List, length, refl, sym, ap, ◌∙◌, inl, inr, arith, eqb_tells}
use Rattle.rh_defs.proofs.Common.{Option, Some, None, Result, Ok, Err, ℤ, SameIn, Granted, ◌>>=◌, found_or, pages_for, lacks_pages, zeros, Split, Segment}
use Rattle.rh_defs.proofs.Common.{Heap, Placed, Way, Stays, Shrinks, GrowsIntoHole, GrowsAtTop, MovesToHole, MovesToTop, segment_size, block_room, bytes_of}
use Rattle.rh_defs.proofs.Common.{place_after, hole_for, placed_in, fitted, way_to, resized_by, base, block_at, need, claim_block, claim_growing, raised}
use Rattle.rh_defs.proofs.Common.{release_block}
use Rattle.rh_defs.proofs.Common.{release_found, new_size, resize_need, resize_growing, Spells, module_claim, module_free, module_resize, module_change}
use Rattle.rh_defs.proofs.Common.{module_need_pages, changed_length, Refusal, NotABlock, BadSize, NoRoom, HeapRefusal, word_same}
use Rattle.rh_defs.specs.Heap.{as_granted, claim_need, resize_block, resize_found, need_at, need_found, refusal_of}
use Rattle.rh_defs.specs.Module.{whole_pages}
use Rattle.rh_defs.specs.declared.refusal.Refusal.TheVariants.{ExcessiveShrink}
use Rattle.rh_defs.specs.declared.heap.HeapRefusal.TheVariants as heap_refusal
use Rattle.rh_defs.proofs.HeapLists.{HasRoom-from_tidy, cond_true, cond_false, eqb_same, ltb_yes, ltb_no}
use Rattle.rh_defs.proofs.HeapLaws.{narrower}
use Rattle.rh_defs.proofs.HeapStretch.{Stand-kept}
use Rattle.rh_defs.proofs.HeapGrowth.{claim-raised, resize-raised, resize_need-raised}
use Rattle.rh_defs.proofs.Chains.{refuse_if-true, refuse_if-false}

-- ---- a heap whose bytes are kept
pub Spells-kept : (b c : List ℕ) (at : ℕ) (h : Heap) → Spells b at h → SameIn b c at (at + h.end) → at + h.end ≤ length c → Spells c at h
Spells-kept b c at h s k l =
    let fits = s.heap.fits in
    let same : (p : ℕ) → at ≤ p → p + 4 ≤ at + h.end → SameIn b c p (p + 4) = λ p lo hi. narrower b c at (at + h.end) p (p + 4) k lo hi in
    record {
      heap = s.heap;
      within = l;
      special = word_same b c at (same at (omega arith) (omega arith)) ∙ s.special;
      base = word_same b c (at + 8) (same (at + 8) (omega arith) (omega arith)) ∙ s.base;
      last = word_same b c (at + 12) (same (at + 12) (omega arith) (omega arith)) ∙ s.last;
      stand = Stand-kept b c (at + 4) (at + 16) h.segments (HasRoom-from_tidy false h.segments s.heap.tidy)
          (word_same b c (at + 4) (same (at + 4) (omega arith) (omega arith)))
          (record { each = λ j lo hi. k.each j (omega arith) (omega arith) }) s.stand;
    }

-- ---- steps
found : {A B : Type 0} (o : Option A) (x : A) (refusal : Refusal) (next : A → Granted B) → o ≡ Some x → (found_or o refusal >>= next) ≡ next x
unfolding ◌>>=◌ found_or
found (Some y) x refusal next e = ap next cc
found None x refusal next e = absurd cc

not_found : {A B : Type 0} (o : Option A) (refusal : Refusal) (next : A → Granted B) → o ≡ None → (found_or o refusal >>= next) ≡ Err refusal
unfolding ◌>>=◌ found_or
not_found (Some y) refusal next e = absurd cc
not_found None refusal next e = refl

lacking : (free shortage : ℕ) → free < pages_for shortage → lacks_pages free shortage ≡ true
lacking free shortage l = ltb_yes free (pages_for shortage) l

sufficing : (free shortage : ℕ) → pages_for shortage ≤ free → lacks_pages free shortage ≡ false
sufficing free shortage l = ltb_no free (pages_for shortage) l

-- a call on a heap of this end is granted and leaves the end, and the call on the module area is granted the same
pub record Grows (end : ℕ) (called : Result (Heap × ℕ) HeapRefusal) (granted : Granted (Heap × ℕ)) : Type 0 where
  pub placed : Placed
  pub called_is : called ≡ Ok (as_granted placed)
  pub granted_is : granted ≡ Ok (placed.heap, placed.address)
  pub end_is : placed.heap.end ≡ end

pub placed_in-end : (bytes : List ℕ) (h : Heap) (o : Option (Split Segment)) → (placed_in bytes h o).heap.end ≡ h.end
placed_in-end bytes h None = refl
placed_in-end bytes h (Some s) = refl

pub release_found-end : (o : Option (Split Segment)) (h : Heap) → (release_found o h).end ≡ h.end
release_found-end None h = refl
release_found-end (Some s) h = refl

pub resized_by-end : (way : Way) (bytes : List ℕ) (s : Split Segment) (h : Heap) → (resized_by way bytes s h).heap.end ≡ h.end
resized_by-end Stays bytes s h = refl
resized_by-end Shrinks bytes s h = refl
resized_by-end (GrowsIntoHole size rest) bytes s h = refl
resized_by-end GrowsAtTop bytes s h = refl
resized_by-end (MovesToHole hole) bytes s h =
    let there = (placed_in bytes h (Some hole)).heap in release_found-end (block_at (place_after s.before + 4) there) there
resized_by-end MovesToTop bytes s h = let there = (placed_in bytes h None).heap in release_found-end (block_at (place_after s.before + 4) there) there

-- ---- claims, by what the heap's need was answered to be
could_need : (k n : ℕ) (h : Heap) → Ok k ≡ claim_need n h → (eqb n 0 ≡ false) × (n ≢ 0) × (k ≡ need n h)
could_need k n h e = elim (eqb_tells n 0) [
  | inl u ↦ let bad : Ok k ≡ Err heap_refusal.BadSize = e ∙ cond_true (eqb n 0) _ _ u.0 in absurd cc
  | inr v ↦ let good : ◌≡◌ {A = Result ℕ HeapRefusal} (Ok k) (Ok (need n h)) = e ∙ cond_false (eqb n 0) _ _ v.0 in (v.0, v.1, cc)
]

no_need : (refusal : HeapRefusal) (n : ℕ) (h : Heap) → Err refusal ≡ claim_need n h → (eqb n 0 ≡ true) × (refusal ≡ heap_refusal.BadSize)
no_need refusal n h e = elim (eqb_tells n 0) [
  | inl u ↦ let bad : ◌≡◌ {A = Result ℕ HeapRefusal} (Err refusal) (Err heap_refusal.BadSize) = e ∙ cond_true (eqb n 0) _ _ u.0 in (u.0, cc)
  | inr v ↦ let good : Err refusal ≡ Ok (need n h) = e ∙ cond_false (eqb n 0) _ _ v.0 in absurd cc
]

pub module_claim-zero : (free n : ℕ) (h : Heap) (refusal : HeapRefusal) → Err refusal ≡ claim_need n h → module_claim free n h ≡ Err (refusal_of refusal)
unfolding module_claim
module_claim-zero free n h refusal e = let w = no_need refusal n h e in refuse_if-true (eqb n 0) BadSize _ w.0 ∙ ap (λ r. Err (refusal_of r)) (sym w.1)

pub module_claim-short : (free k n : ℕ) (h : Heap) → Ok k ≡ claim_need n h → free < pages_for k → module_claim free n h ≡ Err NoRoom
unfolding module_claim
module_claim-short free k n h e l =
    let w = could_need k n h e in
    refuse_if-false (eqb n 0) BadSize _ w.0 ∙ refuse_if-true (lacks_pages free (need n h)) NoRoom _ (lacking free (need n h) (rw (sym w.2) l))

pub module_claim-grows : (free k n : ℕ) (h : Heap) → Ok k ≡ claim_need n h → pages_for k ≤ free
    → Grows (raised k h).end (claim_block n (raised k h)) (module_claim free n h)
unfolding module_claim
module_claim-grows free k n h e l =
    let w = could_need k n h e in
    record {
      placed = claim_growing n h;
      called_is = ap (λ i. claim_block n (raised i h)) w.2 ∙ claim-raised n h w.1;
      granted_is = refuse_if-false (eqb n 0) BadSize _ w.0
          ∙ refuse_if-false (lacks_pages free (need n h)) NoRoom _ (sufficing free (need n h) (rw (sym w.2) l));
      end_is = let g = raised (need n h) h in let bytes =
          zeros (block_room n) in placed_in-end bytes g (hole_for (4 + length bytes) g.segments) ∙ ap (λ i. (raised i h).end) (sym w.2);
    }

pub module_need_pages-zero : (n : ℕ) (h : Heap) (refusal : HeapRefusal) → Err refusal ≡ claim_need n h → module_need_pages n h ≡ Err (refusal_of refusal)
unfolding module_need_pages
module_need_pages-zero n h refusal e = let w = no_need refusal n h e in refuse_if-true (eqb n 0) BadSize _ w.0 ∙ ap (λ r. Err (refusal_of r)) (sym w.1)

pub module_need_pages-is : (k n : ℕ) (h : Heap) → Ok k ≡ claim_need n h → module_need_pages n h ≡ Ok (pages_for k)
unfolding module_need_pages
module_need_pages-is k n h e =
    let w = could_need k n h e in
    refuse_if-false (eqb n 0) BadSize _ w.0 ∙ ap (λ i. Ok (pages_for i)) (sym w.2)

-- ---- frees
pub module_free-none : (address : ℕ) (h : Heap) → block_at address h ≡ None → module_free address h ≡ Err NotABlock
unfolding module_free
module_free-none address h e = not_found (block_at address h) NotABlock _ e

pub module_free-some : (address : ℕ) (h : Heap) (b : Split Segment) → block_at address h ≡ Some b → module_free address h ≡ Ok (release_block address h)
unfolding module_free
module_free-some address h b e = found (block_at address h) b NotABlock _ e ∙ ap (λ o. Ok (release_found o h)) (sym e)

-- ---- resizes, by what the heap's need was answered to be
record Resizes (k address : ℕ) (delta : ℤ) (h : Heap) : Type 0 where
  block : Split Segment
  found : block_at address h ≡ Some block
  left : eqb (new_size delta block) 0 ≡ false
  need_is : k ≡ resize_need (new_size delta block) block h

could_resize : (k address : ℕ) (delta : ℤ) (h : Heap) → Ok k ≡ need_at address delta h → Resizes k address delta h
could_resize k address delta h e = go (block_at address h) refl
  where
    go : (o : Option (Split Segment)) → block_at address h ≡ o → Resizes k address delta h
    go None eo = let bad : Ok k ≡ Err heap_refusal.NotABlock = e ∙ ap (λ o. need_found delta o h) eo in absurd cc
    go (Some b) eo =
        let here : Ok k ≡ need_found delta (Some b) h = e ∙ ap (λ o. need_found delta o h) eo in
        elim (eqb_tells (new_size delta b) 0) [
          | inl u ↦ let bad : Ok k ≡ Err heap_refusal.BadSize = here ∙ cond_true (eqb (new_size delta b) 0) _ _ u.0 in absurd cc
          | inr v ↦ let good : ◌≡◌ {A = Result ℕ HeapRefusal} (Ok k) (Ok (resize_need (new_size delta b) b h)) =
              here ∙ cond_false (eqb (new_size delta b) 0) _ _ v.0 in
              record { block = b; found = eo; left = v.0; need_is = cc }
        ]

pub module_resize-refused : (free address : ℕ) (delta : ℤ) (h : Heap) (refusal : HeapRefusal) → Err refusal ≡ need_at address delta h
    → module_resize free address delta h ≡ Err (refusal_of refusal)
unfolding module_resize
module_resize-refused free address delta h refusal e = go (block_at address h) refl
  where
    go : (o : Option (Split Segment)) → block_at address h ≡ o → module_resize free address delta h ≡ Err (refusal_of refusal)
    go None eo =
        let same : ◌≡◌ {A = Result ℕ HeapRefusal} (Err refusal) (Err heap_refusal.NotABlock) = e ∙ ap (λ o. need_found delta o h) eo in
        let is : heap_refusal.NotABlock ≡ refusal = cc in
        not_found (block_at address h) NotABlock _ eo ∙ ap (λ r. Err (refusal_of r)) is
    go (Some b) eo =
        let here : Err refusal ≡ need_found delta (Some b) h = e ∙ ap (λ o. need_found delta o h) eo in
        elim (eqb_tells (new_size delta b) 0) [
          | inl u ↦ let same : ◌≡◌ {A = Result ℕ HeapRefusal} (Err refusal) (Err heap_refusal.BadSize) = here ∙ cond_true (eqb (new_size delta b) 0) _ _ u.0 in
              let is : heap_refusal.BadSize ≡ refusal = cc in
              found (block_at address h) b NotABlock _ eo ∙ refuse_if-true (eqb (new_size delta b) 0) BadSize _ u.0 ∙ ap (λ r. Err (refusal_of r)) is
          | inr v ↦ let good : Err refusal ≡ Ok (resize_need (new_size delta b) b h) = here ∙ cond_false (eqb (new_size delta b) 0) _ _ v.0 in absurd cc
        ]

pub module_resize-short : (free k address : ℕ) (delta : ℤ) (h : Heap) → Ok k ≡ need_at address delta h → free < pages_for k
    → module_resize free address delta h ≡ Err NoRoom
unfolding module_resize
module_resize-short free k address delta h e l =
    let w = could_resize k address delta h e in
    let n = new_size delta w.block in
    found (block_at address h) w.block NotABlock _ w.found ∙ refuse_if-false (eqb n 0) BadSize _ w.left
    ∙ refuse_if-true (lacks_pages free (resize_need n w.block h)) NoRoom _ (lacking free (resize_need n w.block h) (rw (sym w.need_is) l))

pub module_resize-grows : (free k address : ℕ) (delta : ℤ) (h : Heap) → Ok k ≡ need_at address delta h → pages_for k ≤ free
    → Grows (raised k h).end (resize_block address delta (raised k h)) (module_resize free address delta h)
unfolding module_resize
module_resize-grows free k address delta h e l =
    let w = could_resize k address delta h e in
    let n = new_size delta w.block in
    let g = raised (resize_need n w.block h) h in
    record {
      placed = resize_growing n w.block h;
      called_is = ap (λ i. resize_block address delta (raised i h)) w.need_is ∙ ap (λ o. resize_found delta o g) w.found
          ∙ cond_false (eqb n 0) _ _ w.left
          ∙ cond_true (eqb (resize_need n w.block g) 0) _ _ (eqb_same (resize_need n w.block g) 0 (resize_need-raised n w.block h))
          ∙ ap (λ p. Ok (as_granted p)) (resize-raised n w.block h);
      granted_is = found (block_at address h) w.block NotABlock _ w.found ∙ refuse_if-false (eqb n 0) BadSize _ w.left
          ∙ refuse_if-false (lacks_pages free (resize_need n w.block h)) NoRoom _ (sufficing free (resize_need n w.block h) (rw (sym w.need_is) l));
      end_is = resized_by-end (way_to (segment_size n) w.block h) (fitted (block_room n) (bytes_of w.block.here)) w.block g
          ∙ ap (λ i. (raised i h).end) (sym w.need_is);
    }

-- ---- changes of the length
pub module_change-low : (free : ℕ) (delta : ℤ) (h : Heap) → changed_length h.end delta < base h → module_change free delta h ≡ Err ExcessiveShrink
unfolding module_change
module_change-low free delta h l =
    refuse_if-true (ltb (changed_length h.end delta) (base h)) ExcessiveShrink _ (ltb_yes (changed_length h.end delta) (base h) l)

pub module_change-short : (free : ℕ) (delta : ℤ) (h : Heap) → base h ≤ changed_length h.end delta → free < pages_for (changed_length h.end delta - h.end)
    → module_change free delta h ≡ Err NoRoom
unfolding module_change
module_change-short free delta h b l =
    refuse_if-false (ltb (changed_length h.end delta) (base h)) ExcessiveShrink _ (ltb_no (changed_length h.end delta) (base h) b)
    ∙ refuse_if-true (ltb free (pages_for (changed_length h.end delta - h.end))) NoRoom _ (ltb_yes free (pages_for (changed_length h.end delta - h.end)) l)

pub module_change-done : (free : ℕ) (delta : ℤ) (h : Heap) → base h ≤ changed_length h.end delta → pages_for (changed_length h.end delta - h.end) ≤ free
    → module_change free delta h ≡ Ok (record h { end = changed_length h.end delta }, whole_pages delta)
unfolding module_change
module_change-done free delta h b l =
    refuse_if-false (ltb (changed_length h.end delta) (base h)) ExcessiveShrink _ (ltb_no (changed_length h.end delta) (base h) b)
    ∙ refuse_if-false (ltb free (pages_for (changed_length h.end delta - h.end))) NoRoom _ (ltb_no free (pages_for (changed_length h.end delta - h.end)) l)
