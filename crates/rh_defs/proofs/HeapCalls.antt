-- What releases and changes of the end are granted.
use Rattle.rh_defs.proofs.Common.{inl, inr, ◌≡◌, ℕ, ◌<◌, ◌≤◌, ltb, refl, sym, ap, ◌∙◌, option_map, cases_lt, Option, Some, None, Result, Ok, Err, ℤ, ok_or}
use Rattle.rh_defs.proofs.Common.{answer_of, Split, moved, Segment, Heap, base, block_at, released, release_block, release_found, HeapRefusal}
use Rattle.rh_defs.specs.Chain.{no_answer}
use Rattle.rh_defs.specs.Heap.{released_at, extend_by, extended}
use Rattle.rh_defs.specs.declared.heap.HeapRefusal.TheVariants.{NotABlock, ExcessiveShrink}
use Rattle.rh_defs.proofs.HeapLists.{cond_true, cond_false, ltb_yes, ltb_no}

pub released_at-none : (address : ℕ) (h : Heap) → block_at address h ≡ None → released_at address h ≡ Err NotABlock
released_at-none address h e = ap (λ o. ok_or (option_map (λ s. released s h) o) NotABlock) e

pub released_at-some : (address : ℕ) (h : Heap) (b : Split Segment) → block_at address h ≡ Some b → released_at address h ≡ Ok (release_block address h)
released_at-some address h b e = ap (λ o. ok_or (option_map (λ s. released s h) o) NotABlock) e ∙ ap (λ o. Ok (release_found o h)) (sym e)

-- what a release's answer says
pub released-found : (address : ℕ) (h : Heap) {x : Unit {0}} → Ok x ≡ answer_of (no_answer (released_at address h))
    → (b : Split Segment) × (block_at address h ≡ Some b)
released-found address h e = go (block_at address h) refl
  where
    go : (o : Option (Split Segment)) → block_at address h ≡ o → (b : Split Segment) × (block_at address h ≡ Some b)
    go None q = absurd (let bad = e ∙ ap (λ g. answer_of (no_answer g)) (released_at-none address h q) in cc)
    go (Some b) q = (b, q)

pub released-refused : (address : ℕ) (h : Heap) {refusal : HeapRefusal} → Err refusal ≡ answer_of (no_answer (released_at address h))
    → (block_at address h ≡ None) × (refusal ≡ NotABlock)
released-refused address h {refusal} e = go (block_at address h) refl
  where
    go : (o : Option (Split Segment)) → block_at address h ≡ o → (block_at address h ≡ None) × (refusal ≡ NotABlock)
    go None q = (
      q,
      let is : ◌≡◌ {A = Result (Unit {0}) HeapRefusal} (Err refusal) (Err NotABlock) = e ∙ ap (λ g. answer_of (no_answer g)) (released_at-none address
          h q) in cc,
    )
    go (Some b) q = absurd (let bad = e ∙ ap (λ g. answer_of (no_answer g)) (released_at-some address h b q) in cc)

pub extend-low : (delta : ℤ) (h : Heap) → moved h.end delta < base h → extend_by delta h ≡ Err ExcessiveShrink
extend-low delta h l = cond_true (ltb (moved h.end delta) (base h)) _ _ (ltb_yes (moved h.end delta) (base h) l)

pub extend-done : (delta : ℤ) (h : Heap) → base h ≤ moved h.end delta → extend_by delta h ≡ Ok (extended delta h)
extend-done delta h l = cond_false (ltb (moved h.end delta) (base h)) _ _ (ltb_no (moved h.end delta) (base h) l)

-- what the answer of a change of the end says
pub extend-fits : (delta : ℤ) (h : Heap) {x : Unit {0}} → Ok x ≡ answer_of (no_answer (extend_by delta h)) → base h ≤ moved h.end delta
extend-fits delta h e = elim (cases_lt (moved h.end delta) (base h)) [
  | inl l ↦ absurd (let bad = e ∙ ap (λ g. answer_of (no_answer g)) (extend-low delta h l) in cc)
  | inr l ↦ l
]

pub extend-refused : (delta : ℤ) (h : Heap) {refusal : HeapRefusal} → Err refusal ≡ answer_of (no_answer (extend_by delta h))
    → (moved h.end delta < base h) × (refusal ≡ ExcessiveShrink)
extend-refused delta h {refusal} e = elim (cases_lt (moved h.end delta) (base h)) [
  | inl l ↦ (
    l,
    let is : ◌≡◌ {A = Result (Unit {0}) HeapRefusal} (Err refusal) (Err ExcessiveShrink) = e ∙ ap (λ g. answer_of (no_answer g)) (extend-low delta h l) in
        cc,
  )
  | inr l ↦ absurd (let bad = e ∙ ap (λ g. answer_of (no_answer g)) (extend-done delta h l) in cc)
]
