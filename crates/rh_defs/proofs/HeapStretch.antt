-- A heap with a stretch of bytes open in its midst: how it is opened, filled from below, and closed.
use Rattle.rh_defs.proofs.Common.{◌≡◌, ℕ, zero, suc, ◌+◌, ◌<◌, ◌≤◌, ◌≢◌, ◌⊎◌, inl, inr, false, List, [], ◌∷◌, ◌++◌, length, get_or, refl, sym, ap, subst, ◌∙◌}
use Rattle.rh_defs.proofs.Common.{arith, word, part, SameIn, total, Segment, Used, Hole, Heap, size_of, IsTidy, Stand, Spells, word_same, part_same, HasRoom}
use Rattle.rh_defs.proofs.HeapLists.{HasRoom-from_tidy, HasRoom-append, HasRoom-join, total-append}
use Rattle.rh_defs.proofs.HeapLaws.{narrower, last_link_range, last_link-append, Open-kept, Open-join, Stand-split, Stand-join}
use Rattle.rh_defs.specs.HeapParts.{last_link, Open, LinksTo, Await, HasStretch}

zero_or : (n : ℕ) → (n ≡ 0) ⊎ (n ≢ 0)
zero_or zero = inl refl
zero_or (suc n) = inr (omega arith)

pub Await-from_link : (b : List ℕ) (at f x p : ℕ) (ss : List Segment) → at < f → f < p → LinksTo b at f x → Stand b f p ss → Await b at x p ss
Await-from_link b at f x p [] g l k h = elim (zero_or x) [ inl z ↦ z | inr nz ↦ let e = k.some nz in let l' = k.ahead nz in absurd (omega arith) ]
Await-from_link b at f x p (Used bs ∷ ss) g l k h = (h.0, h.1, Await-from_link b at f x (p + (4 + length bs)) ss g (omega arith) k h.2)
Await-from_link b at f x p (Hole n ∷ ss) g l k h = (
  elim (zero_or x) [ inl z ↦ let e = k.none z in absurd (let h0 = h.0 in omega arith) | inr nz ↦ let e = k.some nz in let h0 = h.0 in omega arith ],
  h.1,
  h.2,
)

pub Stand-kept : (b c : List ℕ) (f p : ℕ) (ss : List Segment) → HasRoom ss → word c f ≡ word b f → SameIn b c p (p + total size_of ss) → Stand b f p ss
    → Stand c f p ss
Stand-kept b c f p [] r k s h = k ∙ h
Stand-kept b c f p (Used bs ∷ ys) r k s h = (
  word_same b c p (narrower b c p (p + total size_of (Used bs ∷ ys)) p (p + 4) s (omega arith) (omega arith)) ∙ h.0,
  part_same b c (p + 4) (length bs) (narrower b c p (p + total size_of (Used bs ∷ ys)) (p + 4) (p + 4 + length bs) s (omega arith) (omega arith)) ∙ h.1,
  Stand-kept b c f (p + (4 + length bs)) ys r k (narrower b c p (p + total size_of (Used bs ∷ ys)) (p + (4 + length bs))
      (p + (4 + length bs) + total size_of ys) s (omega arith) (omega arith)) h.2,
)
Stand-kept b c f p (Hole n ∷ ys) r k s h = (
  ap (λ w. f + w) k ∙ h.0,
  word_same b c (p + 4) (narrower b c p (p + total size_of (Hole n ∷ ys)) (p + 4) (p + 4 + 4) s (omega arith) (omega arith)) ∙ h.1,
  Stand-kept b c p (p + n) ys r.1 (word_same b c p (narrower b c p (p + total size_of (Hole n ∷ ys)) p (p + 4) s (omega arith) (omega arith)))
      (narrower b c p (p + total size_of (Hole n ∷ ys)) (p + n) (p + n + total size_of ys) s (omega arith) (omega arith)) h.2,
)

pub Await-kept : (b c : List ℕ) (at x p : ℕ) (ss : List Segment) → HasRoom ss → SameIn b c p (p + total size_of ss) → Await b at x p ss → Await c at x p ss
Await-kept b c at x p [] r s h = h
Await-kept b c at x p (Used bs ∷ ys) r s h = (
  word_same b c p (narrower b c p (p + total size_of (Used bs ∷ ys)) p (p + 4) s (omega arith) (omega arith)) ∙ h.0,
  part_same b c (p + 4) (length bs) (narrower b c p (p + total size_of (Used bs ∷ ys)) (p + 4) (p + 4 + length bs) s (omega arith) (omega arith)) ∙ h.1,
  Await-kept b c at x (p + (4 + length bs)) ys r (narrower b c p (p + total size_of (Used bs ∷ ys)) (p + (4 + length bs))
      (p + (4 + length bs) + total size_of ys) s (omega arith) (omega arith)) h.2,
)
Await-kept b c at x p (Hole n ∷ ys) r s h = (
  h.0,
  word_same b c (p + 4) (narrower b c p (p + total size_of (Hole n ∷ ys)) (p + 4) (p + 4 + 4) s (omega arith) (omega arith)) ∙ h.1,
  Stand-kept b c p (p + n) ys r.1 (word_same b c p (narrower b c p (p + total size_of (Hole n ∷ ys)) p (p + 4) s (omega arith) (omega arith)))
      (narrower b c p (p + total size_of (Hole n ∷ ys)) (p + n) (p + n + total size_of ys) s (omega arith) (omega arith)) h.2,
)

-- a link to the awaited hole makes them stand
pub Stand-from_await : (b : List ℕ) (at f x p : ℕ) (ss : List Segment) → at < p → LinksTo b at f x → Await b at x p ss → Stand b f p ss
Stand-from_await b at f x p [] l k h = k.none h
Stand-from_await b at f x p (Used bs ∷ ss) l k h = (h.0, h.1, Stand-from_await b at f x (p + (4 + length bs)) ss (omega arith) k h.2)
Stand-from_await b at f x p (Hole n ∷ ss) l k h = (k.some (let e = h.0 in omega arith) ∙ h.0, h.1, h.2)

pub record LinkPlace (at q low : ℕ) : Type 0 where
  pub least : at + 4 ≤ q
  pub most : q + 4 ≤ low
  pub apart : (q ≡ at + 4) ⊎ (at + 16 ≤ q)

pub link_place : (at : ℕ) (xs : List Segment) (q low : ℕ) → HasRoom xs → q ≡ last_link (at + 4) (at + 16) xs → low ≡ at + 16 + total size_of xs
    → LinkPlace at q low
link_place at xs q low r e p = elim (last_link_range (at + 4) (at + 16) xs r (omega arith)) [
  | inl u ↦ record { least = omega arith; most = omega arith; apart = inl (e ∙ u) }
  | inr w ↦ record { least = omega arith; most = omega arith; apart = inr (omega arith) }
]

-- some of a heap's segments give way to a stretch
pub opened : (b : List ℕ) (at : ℕ) (h : Heap) (xs mid ys : List Segment) (q low x upper : ℕ) → Spells b at h → h.segments ≡ xs ++ (mid ++ ys)
    → q ≡ last_link (at + 4) (at + 16) xs → low ≡ at + 16 + total size_of xs → upper ≡ low + total size_of mid
    → LinksTo b at (last_link q low mid) x → HasStretch b at h.end xs ys q low x upper
opened b at h xs mid ys q low x upper s is eq el eu k =
    let room = HasRoom-append xs (mid ++ ys) (subst HasRoom is (HasRoom-from_tidy false h.segments s.heap.tidy)) in
    let rooms = HasRoom-append mid ys room.1 in
    let one = Stand-split b (at + 4) (at + 16) xs (mid ++ ys) (subst (Stand b (at + 4) (at + 16)) is s.stand) in
    let there : Stand b q low (mid ++ ys) =
    subst (λ f. Stand b f low (mid ++ ys)) (sym eq) (subst (λ p. Stand b (last_link (at + 4) (at + 16) xs) p (mid ++ ys)) (sym el) one.1) in
    let two = Stand-split b q low mid ys there in
    let sums : total size_of h.segments ≡ total size_of xs + (total size_of mid + total size_of ys) =
    ap (total size_of) is ∙ total-append xs (mid ++ ys) ∙ ap (λ n. total size_of xs + n) (total-append mid ys) in
    let fit = s.heap.fits in
    let l = link_place at xs q low room.0 eq el in
    let least = l.least in
    let most = l.most in
    let before : (at < last_link q low mid) × (last_link q low mid < upper) = elim (last_link_range q low mid rooms.0 most) [
      | inl u ↦ (omega arith, omega arith)
      | inr u ↦ (omega arith, omega arith)
    ] in
    record {
      special = s.special;
      last = s.last;
      within = s.within;
      multiple = s.heap.multiple;
      fits = omega arith;
      front = one.0;
      link = eq;
      place = el;
      order = omega arith;
      tail = Await-from_link b at (last_link q low mid) x upper ys before.0 before.1 k (subst (λ p. Stand b (last_link q low mid) p ys) (sym eu) two.1);
      room_before = room.0;
      room_behind = rooms.1;
    }

-- the second list differs from the first at most in the word at q, from low up to edge, and in the word at w
pub record SameBut (b c : List ℕ) (q low edge w : ℕ) : Type 0 where
  pub len : length c ≡ length b
  pub same : (k : ℕ) → (k < q) ⊎ (q + 4 ≤ k) → (k < low) ⊎ (edge ≤ k) → (k < w) ⊎ (w + 4 ≤ k) → get_or c k 0 ≡ get_or b k 0

-- a stretch stays open while writes keep to it, to the link before and to the base
pub HasStretch-kept : (b c : List ℕ) (at end : ℕ) (xs ys : List Segment) (q low x upper : ℕ) → HasStretch b at end xs ys q low x upper
    → SameBut b c q low upper (at + 8) → HasStretch c at end xs ys q low x upper
HasStretch-kept b c at end xs ys q low x upper s k =
    let l = link_place at xs q low s.room_before s.link s.place in
    let least = l.least in
    let most = l.most in
    let e = s.place in
    let o = s.order in
    let off : (j : ℕ) → (j < at + 4) ⊎ ((at + 8 ≤ j) × (j < at + 16)) → (j < q) ⊎ (q + 4 ≤ j) =
    λ j w. elim w [
      | inl u ↦ inl (omega arith)
      | inr u ↦ elim l.apart [ inl v ↦ inr (omega arith) | inr v ↦ inl (omega arith) ]
    ] in
    record {
      special = word_same b c at (record { each = λ j lo hi. k.same j (inl (omega arith)) (inl (omega arith)) (inl (omega arith)) }) ∙ s.special;
      last = word_same b c (at + 12) (record { each = λ j lo hi. k.same j (off j (inr (omega arith, omega arith))) (inl (omega arith)) (inr (omega arith)) })
          ∙ s.last;
      within = let n = k.len in let w = s.within in omega arith;
      multiple = s.multiple;
      fits = s.fits;
      front = Open-kept b c (at + 4) (at + 16) xs s.room_before (omega arith)
          (record {
            link = λ j lo hi f. k.same j (subst (λ i. (j < i) ⊎ (i + 4 ≤ j)) (sym s.link) f) (inl (omega arith)) (inl (omega arith));
            body = λ j lo hi f. k.same j (subst (λ i. (j < i) ⊎ (i + 4 ≤ j)) (sym s.link) f) (inl (omega arith)) (inr (omega arith));
          }) s.front;
      link = s.link;
      place = s.place;
      order = s.order;
      tail = Await-kept b c at x upper ys s.room_behind (record { each = λ j lo hi. k.same j (inr (omega arith)) (inr (omega arith)) (inr (omega arith)) })
          s.tail;
      room_before = s.room_before;
      room_behind = s.room_behind;
    }

-- a used segment at the stretch's low end belongs to what stands before it
pub filled : (b : List ℕ) (at end : ℕ) (xs ys : List Segment) (q low x upper : ℕ) (bs : List ℕ) → HasStretch b at end xs ys q low x upper
    → word b low ≡ 4 + length bs → part b (low + 4) (length bs) ≡ bs → low + (4 + length bs) ≤ upper
    → HasStretch b at end (xs ++ Used bs ∷ []) ys q (low + (4 + length bs)) x upper
filled b at end xs ys q low x upper bs s size block fit = record {
  special = s.special;
  last = s.last;
  within = s.within;
  multiple = s.multiple;
  fits = s.fits;
  front = Open-join b (at + 4) (at + 16) xs (Used bs ∷ []) s.front
      (subst (λ f. Open b f (at + 16 + total size_of xs) (Used bs ∷ [])) s.link (subst (λ p. Open b q p (Used bs ∷ [])) s.place (size, block, tt)));
  link = s.link ∙ sym (last_link-append (at + 4) (at + 16) xs (Used bs ∷ []));
  place = let e = s.place in omega (arith, total-append xs (Used bs ∷ []));
  order = fit;
  tail = s.tail;
  room_before = HasRoom-join xs (Used bs ∷ []) s.room_before tt;
  room_behind = s.room_behind;
}

-- and so does a hole to which the link before leads
pub holed : (b : List ℕ) (at end : ℕ) (xs ys : List Segment) (q low x upper n : ℕ) → HasStretch b at end xs ys q low x upper
    → q + word b q ≡ low → word b (low + 4) ≡ n → 8 ≤ n → low + n ≤ upper
    → HasStretch b at end (xs ++ Hole n ∷ []) ys low (low + n) x upper
holed b at end xs ys q low x upper n s link size big fit = record {
  special = s.special;
  last = s.last;
  within = s.within;
  multiple = s.multiple;
  fits = s.fits;
  front = Open-join b (at + 4) (at + 16) xs (Hole n ∷ []) s.front
      (subst (λ f. Open b f (at + 16 + total size_of xs) (Hole n ∷ [])) s.link (subst (λ p. Open b q p (Hole n ∷ [])) s.place (link, size, tt)));
  link = s.place ∙ sym (last_link-append (at + 4) (at + 16) xs (Hole n ∷ []));
  place = let e = s.place in omega (arith, total-append xs (Hole n ∷ []));
  order = fit;
  tail = s.tail;
  room_before = HasRoom-join xs (Hole n ∷ []) s.room_before (big, tt);
  room_behind = s.room_behind;
}

-- a hole that follows the stretch becomes a part of it
pub absorbed : (b : List ℕ) (at end : ℕ) (xs ys : List Segment) (q low x y upper m : ℕ) → HasStretch b at end xs (Hole m ∷ ys) q low x upper
    → LinksTo b at upper y → HasStretch b at end xs ys q low y (upper + m)
absorbed b at end xs ys q low x y upper m s k =
    let o = s.order in
    let e = s.place in
    let big = s.room_behind.0 in
    let f = s.fits in
    record {
      special = s.special;
      last = s.last;
      within = s.within;
      multiple = s.multiple;
      fits = omega arith;
      front = s.front;
      link = s.link;
      place = s.place;
      order = omega arith;
      tail = Await-from_link b at upper y (upper + m) ys (omega arith) (omega arith) k s.tail.2;
      room_before = s.room_before;
      room_behind = s.room_behind.1;
    }

-- where nothing stands behind, the stretch may reach up to the heap's end
pub reaching : (b : List ℕ) (at end : ℕ) (xs : List Segment) (q low x upper top : ℕ) → HasStretch b at end xs [] q low x upper → low ≤ top → top ≤ at + end
    → HasStretch b at end xs [] q low x top
reaching b at end xs q low x upper top s l h = record {
  special = s.special;
  last = s.last;
  within = s.within;
  multiple = s.multiple;
  fits = omega arith;
  front = s.front;
  link = s.link;
  place = s.place;
  order = l;
  tail = s.tail;
  room_before = s.room_before;
  room_behind = tt;
}

-- a stretch of no bytes, with the link over it and the base
pub closed : (b : List ℕ) (at end : ℕ) (xs ys : List Segment) (q low x upper : ℕ) → HasStretch b at end xs ys q low x upper → low ≡ upper → LinksTo b at q x
    → at + word b (at + 8) ≡ upper + total size_of ys → IsTidy false (xs ++ ys) → Spells b at (record { segments = xs ++ ys; end = end })
closed b at end xs ys q low x upper s e k base tidy =
    let sums = total-append xs ys in
    let place = s.place in
    let fits = s.fits in
    let there : Stand b q low ys = Stand-from_await b at q x low ys (omega arith) k (subst (λ p. Await b at x p ys) (sym e) s.tail) in
    record {
      heap = record { tidy = tidy; fits = omega arith; multiple = s.multiple };
      within = s.within;
      special = s.special;
      base = omega arith;
      last = s.last;
      stand = Stand-join b (at + 4) (at + 16) xs ys s.front (subst (λ f. Stand b f (at + 16 + total size_of xs) ys) s.link
          (subst (λ p. Stand b q p ys) place there));
    }
