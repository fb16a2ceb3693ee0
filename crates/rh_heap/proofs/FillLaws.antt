-- A used segment at the low end of a stretch, and at the top.
use Rattle.rh_heap.proofs.Common.{◌≡◌, ℕ, ◌+◌, ◌-◌, ◌%◌, ◌≤◌, inl, inr, false, List, [], ◌∷◌, ◌++◌, length, sym, subst, ◌∙◌, arith, append-nil, word, part}
use Rattle.rh_heap.proofs.Common.{SameOutside, total, Segment, Used, IsTidy, size_of, Spells, HasStretch-kept, link_place, closed, StretchBetween, LinksTo}
use Rattle.rh_heap.proofs.Common.{HasStretch}
use Rattle.rh_defs.proofs.BytesLaws.{part_same}
use Rattle.rh_defs.proofs.HeapStretch.{filled, reaching}
use Rattle.rh_heap.proofs.StretchLaws.{but_body, but_base, but_both, word_below, word_above, LinksTo-kept}

pub part_below : {b c : List ℕ} {lo hi : ℕ} → SameOutside b c lo hi → (p n : ℕ) → p + n ≤ lo → part c p n ≡ part b p n
part_below {b} {c} s p n h = part_same b c p n (record { each = λ k u v. s.below k (omega arith) })

pub part_above : {b c : List ℕ} {lo hi : ℕ} → SameOutside b c lo hi → (p n : ℕ) → hi ≤ p → part c p n ≡ part b p n
part_above {b} {c} s p n h = part_same b c p n (record { each = λ k u v. s.above k (omega arith) })

-- a used segment is written at the low end of a stretch, and the rest of it stays open
pub filled_between : (b c : List ℕ) (at end : ℕ) (xs ys : List Segment) (link low next upper size : ℕ) (bs : List ℕ)
    → HasStretch b at end xs ys (at + link) (at + low) next (at + upper)
    → word b (at + 8) ≡ upper + total size_of ys → SameOutside b c (at + low) (at + low + size) → size ≡ 4 + length bs
    → word c (at + low) ≡ size → part c (at + low + 4) (length bs) ≡ bs → low + size ≤ upper → (upper - (low + size)) % 8 ≡ 0
    → IsTidy false (xs ++ Used bs ∷ []) → IsTidy false ys
    → StretchBetween c at end (xs ++ Used bs ∷ []) ys (record { link = link; low = low + size; next = next; upper = upper })
filled_between b c at end xs ys link low next upper size bs s based o es sized block fit mult tidy behind =
    let place = s.place in
    let kept = HasStretch-kept b c at end xs ys (at + link) (at + low) next (at + upper) s
    (but_body o (at + link) (at + low) (at + upper) (at + 8) (omega arith) (omega arith)) in
    let full = filled c at end xs ys (at + link) (at + low) next (at + upper) bs kept (sized ∙ es) block (omega arith) in
    record {
      has = subst (λ l. HasStretch c at end (xs ++ Used bs ∷ []) ys (at + link) l next (at + upper)) (omega arith) full;
      based = word_below o (at + 8) (omega arith) ∙ based;
      multiple = mult;
      tidy_before = tidy;
      tidy_behind = behind;
    }

-- a used segment is written at the top, and then the base
pub topped : (b b1 c : List ℕ) (at end : ℕ) (xs : List Segment) (q low x upper size base : ℕ) (bs : List ℕ) → HasStretch b at end xs [] q (at + low) x upper
    → LinksTo b at q x
    → SameOutside b b1 (at + low) (at + low + size) → size ≡ 4 + length bs → word b1 (at + low) ≡ size → part b1 (at + low + 4) (length bs) ≡ bs
    → SameOutside b1 c (at + 8) (at + 8 + 4) → word c (at + 8) ≡ base → base ≡ low + size → low + size ≤ end → IsTidy false (xs ++ Used bs ∷ [])
    → Spells c at (record { segments = xs ++ Used bs ∷ []; end = end })
topped b b1 c at end xs q low x upper size base bs s k o1 es sized block o2 based eb fit tidy =
    let place = s.place in
    let l = link_place at xs q (at + low) s.room_before s.link s.place in
    let most = l.most in
    let high = reaching b at end xs q (at + low) x upper (at + low + size) s (omega arith) (omega arith) in
    let kept = HasStretch-kept b c at end xs [] q (at + low) x (at + low + size) high
    (but_both (but_body o1 q (at + low) (at + low + size) (at + 8) (omega arith) (omega arith)) (but_base o2 q (at + low) (at + low + size))) in
    let full = filled c at end xs [] q (at + low) x (at + low + size) bs kept
    (word_above o2 (at + low) (omega arith) ∙ sized ∙ es) (part_above o2 (at + low + 4) (length bs) (omega arith) ∙ block) (omega arith) in
    let word_q : word c q ≡ word b q = elim l.apart [
      | inl u ↦ word_below o2 q (omega arith) ∙ word_below o1 q (omega arith)
      | inr u ↦ word_above o2 q (omega arith) ∙ word_below o1 q (omega arith)
    ] in
    subst (λ ss. Spells c at (record { segments = ss; end = end })) (append-nil (xs ++ Used bs ∷ []))
    (closed c at end (xs ++ Used bs ∷ []) [] q (at + low + (4 + length bs)) x (at + low + size) full (omega arith) (LinksTo-kept k word_q) (omega arith)
    (subst (IsTidy false) (sym (append-nil (xs ++ Used bs ∷ []))) tidy))
