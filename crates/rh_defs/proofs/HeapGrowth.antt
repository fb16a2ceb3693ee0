-- A call with growth is the call on the longer heap.
use Rattle.rh_defs.proofs.Common.{◌≡◌, ℕ, ◌+◌, ◌-◌, ◌*◌, ◌<◌, ◌≤◌, ◌≢◌, inl, inr, Bool, true, false, cond, eqb, leb, ltb, List, [], ◌∷◌, refl, sym, ap, ◌∙◌}
use Rattle.rh_defs.proofs.Common.{arith, cases_eq, nat_tests, Option, Some, None, Ok, ℤ, answer_of, Split, page_size, pages_for, Segment, Used, Hole, Heap, Way}
use Rattle.rh_defs.proofs.Common.{Stays, Shrinks, GrowsIntoHole, GrowsAtTop, MovesToHole, MovesToTop, size_of, place_after, hole_for, shortage_in}
use Rattle.rh_defs.proofs.Common.{segment_size, need, claim_block, new_size, raised, claim_growing, way_beyond, way_to_grow, way_to, end_for, resize_need}
use Rattle.rh_defs.proofs.Common.{resized_by, fitted, block_room, bytes_of, resize_growing}
use Rattle.rh_defs.specs.Heap.{claim_need, resize_found, need_found, as_granted, resized}
use Rattle.rh_defs.proofs.HeapLists.{cond_true, cond_false, eqb_same, eqb_apart, leb_yes, leb_no}

none_short : (t : ℕ) (h : Heap) (o : Option (Split Segment)) → shortage_in t (raised (shortage_in t h o) h) o ≡ 0
none_short t h (Some s) = refl
none_short t h None = omega arith

-- the heap that is raised by the need has room
pub need-raised : (n : ℕ) (h : Heap) → need n (raised (need n h) h) ≡ 0
need-raised n h = none_short (segment_size n) h (hole_for (segment_size n) h.segments)

pub claim-raised : (n : ℕ) (h : Heap) → n ≢ 0 → claim_block n (raised (need n h) h) ≡ Ok (as_granted (claim_growing n h))
claim-raised n h ne =
    cond_false (eqb n 0) _ _ (eqb_apart n 0 ne)
    ∙ cond_true (eqb (need n (raised (need n h) h)) 0) _ _ (eqb_same (need n (raised (need n h) h)) 0 (need-raised n h))

le_of : (x y : ℕ) → leb x y ≡ true → x ≤ y
le_of x y e = grind (arith, nat_tests)

gt_of : (x y : ℕ) → leb x y ≡ false → y < x
gt_of x y e = grind (arith, nat_tests)

same_top : (b : Bool) (o : Option (Split Segment)) → o ≡ None → cond b GrowsAtTop (way_beyond [] o) ≡ GrowsAtTop
same_top true o e = refl
same_top false o e = ap (way_beyond []) e

-- a longer heap, by what the way wants, leaves the way
grow_same : (t : ℕ) (s : Split Segment) (after : List Segment) (h : Heap) (k : ℕ) → k ≡ end_for (way_to_grow t s after h) t s h - h.end
    → way_to_grow t s after (raised k h) ≡ way_to_grow t s after h
grow_same t s (Used bs ∷ after) h k e = refl
grow_same t s (Hole n ∷ after) h k e = refl
grow_same t s [] h k e = go (leb (place_after s.before + t) h.end) refl (hole_for t h.segments) refl
  where
    go : (b : Bool) → leb (place_after s.before + t) h.end ≡ b → (o : Option (Split Segment)) → hole_for t h.segments ≡ o
        → way_to_grow t s [] (raised k h) ≡ way_to_grow t s [] h
    go true eb o eo =
        let l = le_of (place_after s.before + t) h.end eb in
        cond_true (leb (place_after s.before + t) (raised k h).end) _ _ (leb_yes (place_after s.before + t) (raised k h).end (omega arith))
        ∙ sym (cond_true (leb (place_after s.before + t) h.end) _ _ eb)
    go false eb None eo = same_top (leb (place_after s.before + t) (raised k h).end) (hole_for t h.segments) eo
        ∙ sym (same_top (leb (place_after s.before + t) h.end) (hole_for t h.segments) eo)
    go false eb (Some hole) eo =
        let g = gt_of (place_after s.before + t) h.end eb in
        let v : way_to_grow t s [] h ≡ MovesToHole hole = cond_false (leb (place_after s.before + t) h.end) _ _ eb ∙ ap (way_beyond []) eo in
        let z : k ≡ 0 = e ∙ ap (λ (w : Way). end_for w t s h - h.end) v ∙ omega arith in
        cond_false (leb (place_after s.before + t) (raised k h).end) _ _ (leb_no (place_after s.before + t) (raised k h).end (omega arith))
        ∙ sym (cond_false (leb (place_after s.before + t) h.end) _ _ eb)

pub way-raised : (t : ℕ) (s : Split Segment) (h : Heap) → way_to t s (raised (end_for (way_to t s h) t s h - h.end) h) ≡ way_to t s h
way-raised t s h = go (eqb t (size_of s.here)) (ltb t (size_of s.here)) (end_for (way_to t s h) t s h - h.end) refl
  where
    go : (a b : Bool) (k : ℕ) → k ≡ end_for (cond a Stays (cond b Shrinks (way_to_grow t s s.after h))) t s h - h.end
        → cond a Stays (cond b Shrinks (way_to_grow t s s.after (raised k h))) ≡ cond a Stays (cond b Shrinks (way_to_grow t s s.after h))
    go true b k e = refl
    go false true k e = refl
    go false false k e = grow_same t s s.after h k e

-- a resize with growth is the resize of the longer heap
pub resize-raised : (n : ℕ) (s : Split Segment) (h : Heap) → resized n s (raised (resize_need n s h) h) (raised (resize_need n s h) h) ≡ resize_growing n s h
resize-raised n s h =
    ap (λ (w : Way). resized_by w (fitted (block_room n) (bytes_of s.here)) s (raised (resize_need n s h) h)) (way-raised (segment_size n) s h)

enough : (w : Way) (t : ℕ) (s : Split Segment) (h : Heap) → end_for w t s (raised (end_for w t s h - h.end) h) ≤ (raised (end_for w t s h - h.end) h).end
enough Stays t s h = omega arith
enough Shrinks t s h = omega arith
enough (GrowsIntoHole n rest) t s h = omega arith
enough GrowsAtTop t s h = omega arith
enough (MovesToHole hole) t s h = omega arith
enough MovesToTop t s h = omega arith

-- and that heap has room
pub resize_need-raised : (n : ℕ) (s : Split Segment) (h : Heap) → resize_need n s (raised (resize_need n s h) h) ≡ 0
resize_need-raised n s h =
    let t = segment_size n in
    let g = raised (resize_need n s h) h in
    ap (λ (w : Way). end_for w t s g - g.end) (way-raised t s h) ∙ (let l = enough (way_to t s h) t s h in omega arith)

-- ---- calls that the heap as it is grants

-- a heap that is raised by nothing
pub raised-none : (h : Heap) → raised 0 h ≡ h
raised-none h = ap (λ (e : ℕ). let r : Heap = record h { end = e } in r) (let z : h.end + page_size * pages_for 0 ≡ h.end = omega arith in z)

-- a claim that was granted needs no more
pub claim-granted : (n x : ℕ) (h : Heap) → Ok x ≡ answer_of (claim_block n h) → Ok 0 ≡ claim_need n h
claim-granted n x h e = elim (cases_eq n 0) [
  | inl z ↦ absurd (let q = e ∙ ap answer_of (cond_true (eqb n 0) _ _ (eqb_same n 0 z)) in cc)
  | inr ne ↦ elim (cases_eq (need n h) 0) [
    | inl none ↦ sym (cond_false (eqb n 0) _ _ (eqb_apart n 0 ne) ∙ ap (λ i. Ok i) none)
    | inr some ↦ absurd (let q = e ∙ ap answer_of (cond_false (eqb n 0) _ _ (eqb_apart n 0 ne)
        ∙ cond_false (eqb (need n h) 0) _ _ (eqb_apart (need n h) 0 some)) in cc)
  ]
]

-- and so does a resize
pub resize-granted : (delta : ℤ) (o : Option (Split Segment)) (h : Heap) (x : ℕ) → Ok x ≡ answer_of (resize_found delta o h) → Ok 0 ≡ need_found delta o h
resize-granted delta None h x e = absurd cc
resize-granted delta (Some b) h x e = elim (cases_eq (new_size delta b) 0) [
  | inl z ↦ absurd (let q = e ∙ ap answer_of (cond_true (eqb (new_size delta b) 0) _ _ (eqb_same (new_size delta b) 0 z)) in cc)
  | inr ne ↦ elim (cases_eq (resize_need (new_size delta b) b h) 0) [
    | inl none ↦ sym (cond_false (eqb (new_size delta b) 0) _ _ (eqb_apart (new_size delta b) 0 ne) ∙ ap (λ i. Ok i) none)
    | inr some ↦ absurd (
        let q = e ∙ ap answer_of (cond_false (eqb (new_size delta b) 0) _ _ (eqb_apart (new_size delta b) 0 ne)
        ∙ cond_false (eqb (resize_need (new_size delta b) b h) 0) _ _ (eqb_apart (resize_need (new_size delta b) b h) 0 some)) in
        cc)
  ]
]
