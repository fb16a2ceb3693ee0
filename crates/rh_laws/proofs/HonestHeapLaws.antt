-- The description of a heap, by its segments.
use Rattle.rh_laws.proofs.Common.{◌≡◌, ℕ, ◌+◌, ◌-◌, ◌%◌, ◌≤◌, ◌<◌, Bool, true, false, cond, List, [], ◌∷◌, inl, inr, refl, sym, ap, ◌∙◌, arith, is_ok, nat_le}
use Rattle.rh_laws.proofs.Common.{◌==◌, ◌&&◌, Result, Ok, Err, if◌then◌else◌, leb_tells, eqb_tells, total, zeros, Segment, Used, Hole, Heap, base, block_room}
use Rattle.rh_laws.proofs.Common.{hole_size, largest, largest_hole, need, segment_size, size_of, leb_yes, leb_no, eqb_same, eqb_apart}
use Rattle.rh_defs.specs.declared.heap.HeapRefusal.{HeapRefusal}
use Rattle.rh_defs.specs.declared.heap.HeapRefusal.TheVariants.{BadSize, NoRoom}
use Rattle.rh_defs.specs.Heap.{IsHeap, IsTidy, as_granted, claim_block, placed_block}
use Rattle.rh_laws.specs.HonestHeaps.{AreHonest, used_size}
use Rattle.rh_laws.proofs.RefusalRoomLaws.{need-short}

-- ---- sizes are multiples of 8

holes-whole : (after_hole : Bool) (segments : List Segment) → IsTidy after_hole segments → largest_hole segments % 8 ≡ 0
holes-whole false [] t = refl
holes-whole true [] t = absurd t
holes-whole false (Used bytes ∷ segments) t = let rest = holes-whole false segments t.1 in omega arith
holes-whole true (Used bytes ∷ segments) t = let rest = holes-whole false segments t.1 in omega arith
holes-whole false (Hole n ∷ segments) t = let here = t.1 in let rest = holes-whole true segments t.2 in omega arith
holes-whole true (Hole n ∷ segments) t = absurd t

sizes-whole : (after_hole : Bool) (segments : List Segment) → IsTidy after_hole segments
    → total size_of segments % 8 ≡ 0
sizes-whole false [] t = refl
sizes-whole true [] t = absurd t
sizes-whole false (Used bytes ∷ segments) t = let here = t.0 in let rest = sizes-whole false segments t.1 in omega arith
sizes-whole true (Used bytes ∷ segments) t = let here = t.0 in let rest = sizes-whole false segments t.1 in omega arith
sizes-whole false (Hole n ∷ segments) t = let here = t.1 in let rest = sizes-whole true segments t.2 in omega arith
sizes-whole true (Hole n ∷ segments) t = absurd t

-- ---- claims without growth

module _ (n : ℕ) (h : Heap) (is : IsHeap h) where
  -- a block that the largest room takes is short of nothing
  pub need-none : 1 ≤ n → n ≤ largest h → need n h ≡ 0
  need-none some fits =
      need-short n h ∙ elim (leb_tells (segment_size n) (largest_hole h.segments)) [
        | inl u ↦ ap (λ (b : Bool). cond b 0 ((base h + segment_size n) - h.end)) u.0
        | inr u ↦ ap (λ (b : Bool). cond b 0 ((base h + segment_size n) - h.end)) u.0
            ∙ (let room = is.fits in let whole = is.multiple in
            let holes = holes-whole false h.segments is.tidy in let sizes = sizes-whole false h.segments is.tidy in
            let less = u.1 in omega arith)
      ]

  -- and any larger one is
  pub need-some : largest h < n → 0 < need n h
  need-some more =
      let room = is.fits in let whole = is.multiple in
      let holes = holes-whole false h.segments is.tidy in let sizes = sizes-whole false h.segments is.tidy in
      let hole : largest_hole h.segments < segment_size n = omega arith in
      let short : need n h ≡ (base h + segment_size n) - h.end =
      need-short n h ∙ ap (λ (b : Bool). cond b 0 ((base h + segment_size n) - h.end))
      (leb_no (segment_size n) (largest_hole h.segments) hole) in
      omega arith

  claims-honest : is_ok (claim_block n h) ≡ (nat_le 1 n && nat_le n (largest h))
  claims-honest = elim (eqb_tells n 0) [
    | inl u ↦ ap (λ (b : Bool). is_ok (answer b (need n h == 0))) u.0
        ∙ sym (ap (λ (b : Bool). b && nat_le n (largest h)) (leb_no 1 n (let none = u.1 in omega arith)))
    | inr u ↦ ap (λ (b : Bool). is_ok (answer b (need n h == 0))) u.0
        ∙ (let some : 1 ≤ n = (let other = u.1 in omega arith) in
        elim (leb_tells n (largest h)) [
          | inl v ↦ ap (λ (b : Bool). is_ok (answer false b)) (eqb_same (need n h) 0 (need-none some v.1))
              ∙ sym (ap (λ (b : Bool). b && nat_le n (largest h)) (leb_yes 1 n some) ∙ v.0)
          | inr v ↦ ap (λ (b : Bool). is_ok (answer false b)) (eqb_apart (need n h) 0 (let short = need-some v.1 in omega arith))
              ∙ sym (ap (λ (b : Bool). b && nat_le n (largest h)) (leb_yes 1 n some) ∙ v.0)
        ])
  ]
    where
      answer : Bool → Bool → Result (Heap × ℕ) HeapRefusal
      answer none room = if none then Err BadSize else if room then Ok (as_granted (placed_block (zeros (block_room n)) h)) else Err NoRoom

-- ---- sums

sizes-split : (segments : List Segment) → total size_of segments ≡ total used_size segments + total hole_size segments
sizes-split [] = omega arith
sizes-split (Used bytes ∷ segments) = let rest = sizes-split segments in omega arith
sizes-split (Hole n ∷ segments) = let rest = sizes-split segments in omega arith

pub honest : AreHonest
honest h is = record {
  claims = λ n. claims-honest n h is;
  sums = let room = is.fits in let split = sizes-split h.segments in omega arith;
}
