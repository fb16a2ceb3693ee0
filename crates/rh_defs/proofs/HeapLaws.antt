-- Laws of segments that stand in bytes.
use Rattle.rh_defs.proofs.Common.{◌≡◌, ℕ, zero, suc, ◌+◌, ◌-◌, ◌<◌, ◌≤◌, ◌≢◌, ◌⊎◌, inl, inr, false, List, [], ◌∷◌, ◌++◌, length, get_or, eqb, refl, sym, ap}
use Rattle.rh_defs.proofs.Common.{◌∙◌, arith, word, part, SameIn, total, Segment, Used, Hole, Heap, size_of, Stand, Spells, word_same, part_same, HasRoom}
use Rattle.rh_defs.specs.HeapImage.{segments_read, heap_of}
use Rattle.rh_defs.proofs.HeapLists.{HasRoom-from_tidy, cond_true, cond_false, eqb_same, eqb_apart}
use Rattle.rh_defs.specs.HeapParts.{last_link, Open}

pub narrower : (b c : List ℕ) (lo hi lo' hi' : ℕ) → SameIn b c lo hi → lo ≤ lo' → hi' ≤ hi → SameIn b c lo' hi'
narrower b c lo hi lo' hi' s l h = record { each = λ k x y. s.each k (omega arith) (omega arith) }

pub last_link-append : (f p : ℕ) (xs ys : List Segment) → last_link f p (xs ++ ys) ≡ last_link (last_link f p xs) (p + total size_of xs) ys
last_link-append f p [] ys = rw (let e : p + 0 ≡ p = omega arith in e) refl
last_link-append f p (Used bs ∷ xs) ys =
    last_link-append f (p + (4 + length bs)) xs ys ∙ ap (λ q. last_link (last_link f (p + (4 + length bs)) xs) q ys) (omega arith)
last_link-append f p (Hole n ∷ xs) ys = last_link-append p (p + n) xs ys ∙ ap (λ q. last_link (last_link p (p + n) xs) q ys) (omega arith)

pub Stand-split : (b : List ℕ) (f p : ℕ) (xs ys : List Segment) → Stand b f p (xs ++ ys) → Open b f p xs × Stand b (last_link f p xs) (p + total size_of xs) ys
Stand-split b f p [] ys h = (tt, rw (let e : p + 0 ≡ p = omega arith in e) h)
Stand-split b f p (Used bs ∷ xs) ys h =
    let r = Stand-split b f (p + (4 + length bs)) xs ys h.2 in
    ((h.0, h.1, r.0), rw (let e : p + (4 + length bs + total size_of xs) ≡ p + (4 + length bs) + total size_of xs = omega arith in e) r.1)
Stand-split b f p (Hole n ∷ xs) ys h =
    let r = Stand-split b p (p + n) xs ys h.2 in
    ((h.0, h.1, r.0), rw (let e : p + (n + total size_of xs) ≡ p + n + total size_of xs = omega arith in e) r.1)

pub Stand-join : (b : List ℕ) (f p : ℕ) (xs ys : List Segment) → Open b f p xs → Stand b (last_link f p xs) (p + total size_of xs) ys → Stand b f p (xs ++ ys)
Stand-join b f p [] ys o h = rw (let e : p ≡ p + 0 = omega arith in e) h
Stand-join b f p (Used bs ∷ xs) ys o h = (
  o.0,
  o.1,
  Stand-join b f (p + (4 + length bs)) xs ys o.2 (rw (let e : p + (4 + length bs) + total size_of xs ≡ p + (4 + length bs + total size_of xs) =
      omega arith in e) h),
)
Stand-join b f p (Hole n ∷ xs) ys o h =
    (o.0, o.1, Stand-join b p (p + n) xs ys o.2 (rw (let e : p + n + total size_of xs ≡ p + (n + total size_of xs) = omega arith in e) h))

-- open segments in a row
pub Open-join : (b : List ℕ) (f p : ℕ) (xs ys : List Segment) → Open b f p xs → Open b (last_link f p xs) (p + total size_of xs) ys → Open b f p (xs ++ ys)
Open-join b f p [] ys o h = rw (let e : p ≡ p + 0 = omega arith in e) h
Open-join b f p (Used bs ∷ xs) ys o h = (
  o.0,
  o.1,
  Open-join b f (p + (4 + length bs)) xs ys o.2 (rw (let e : p + (4 + length bs) + total size_of xs ≡ p + (4 + length bs + total size_of xs) =
      omega arith in e) h),
)
Open-join b f p (Hole n ∷ xs) ys o h =
    (o.0, o.1, Open-join b p (p + n) xs ys o.2 (rw (let e : p + n + total size_of xs ≡ p + (n + total size_of xs) = omega arith in e) h))

-- where the last link can be
pub last_link_range : (f p : ℕ) (xs : List Segment) → HasRoom xs → f + 4 ≤ p
    → (last_link f p xs ≡ f) ⊎ ((p ≤ last_link f p xs) × (last_link f p xs + 8 ≤ p + total size_of xs))
last_link_range f p [] r h = inl refl
last_link_range f p (Used bs ∷ xs) r h = elim (last_link_range f (p + (4 + length bs)) xs r (omega arith)) [
  | inl e ↦ inl e
  | inr w ↦ inr (omega arith, omega arith)
]
last_link_range f p (Hole n ∷ xs) r h = elim (last_link_range p (p + n) xs r.1 (omega arith)) [
  | inl e ↦ inr (omega arith, omega arith)
  | inr w ↦ inr (omega arith, omega arith)
]

-- the second list has the first one's bytes in four bytes from f on and in n bytes from p on, but perhaps for the word at q
pub record Keeps (b c : List ℕ) (f p n q : ℕ) : Type 0 where
  pub link : (k : ℕ) → f ≤ k → k < f + 4 → (k < q) ⊎ (q + 4 ≤ k) → get_or c k 0 ≡ get_or b k 0
  pub body : (k : ℕ) → p ≤ k → k < p + n → (k < q) ⊎ (q + 4 ≤ k) → get_or c k 0 ≡ get_or b k 0

-- open segments stay where their bytes stay, but perhaps for the last link
pub Open-kept : (b c : List ℕ) (f p : ℕ) (xs : List Segment) → HasRoom xs → f + 4 ≤ p → Keeps b c f p (total size_of xs) (last_link f p xs) → Open b f p xs
    → Open c f p xs
Open-kept b c f p [] r h k o = tt
Open-kept b c f p (Used bs ∷ xs) r h k o =
    let q = last_link f (p + (4 + length bs)) xs in
    let far : (q + 4 ≤ p) ⊎ (p + (4 + length bs) ≤ q) = elim (last_link_range f (p + (4 + length bs)) xs r (omega arith)) [
      | inl e ↦ inl (omega arith)
      | inr l ↦ inr (omega arith)
    ] in
    let off : (j : ℕ) → p ≤ j → j < p + (4 + length bs) → (j < q) ⊎ (q + 4 ≤ j) =
    λ j x y. elim far [ inl e ↦ inr (omega arith) | inr e ↦ inl (omega arith) ] in
    let s : SameIn b c p (p + (4 + length bs)) = record { each = λ j x y. k.body j x (omega arith) (off j x y) } in (
      word_same b c p (narrower b c p (p + (4 + length bs)) p (p + 4) s (omega arith) (omega arith)) ∙ o.0,
      part_same b c (p + 4) (length bs) (narrower b c p (p + (4 + length bs)) (p + 4) (p + 4 + length bs) s (omega arith) (omega arith)) ∙ o.1,
      Open-kept b c f (p + (4 + length bs)) xs r (omega arith) (record { link = k.link; body = λ j x y. k.body j (omega arith) (omega arith) }) o.2,
    )
Open-kept b c f p (Hole n ∷ xs) r h k o =
    let big = r.0 in
    let q = last_link p (p + n) xs in
    let where_to : (q ≡ p) ⊎ (p + n ≤ q) = elim (last_link_range p (p + n) xs r.1 (omega arith)) [
      | inl e ↦ inl e
      | inr l ↦ inr (omega arith)
    ] in
    let ahead : p ≤ q = elim where_to [ inl e ↦ omega arith | inr l ↦ omega arith ] in
    let off : (j : ℕ) → p + 4 ≤ j → j < p + 8 → (j < q) ⊎ (q + 4 ≤ j) =
    λ j x y. elim where_to [ inl e ↦ inr (omega arith) | inr e ↦ inl (omega arith) ] in (
      ap (λ v. f + v) (word_same b c f (record { each = λ j x y. k.link j x y (inl (omega arith)) })) ∙ o.0,
      word_same b c (p + 4) (record { each = λ j x y. k.body j (omega arith) (omega arith) (off j (omega arith) (omega arith)) }) ∙ o.1,
      Open-kept b c p (p + n) xs r.1 (omega arith)
          (record { link = λ j x y. k.body j (omega arith) (omega arith); body = λ j x y. k.body j (omega arith) (omega arith) }) o.2,
    )

-- no hole stands in the list
abbrev pub HasNone : List Segment → Type 0
HasNone [] = Unit {0}
HasNone (Used bs ∷ ss) = HasNone ss
HasNone (Hole n ∷ ss) = ⊥

pub last_link-none : (f p : ℕ) (xs : List Segment) → HasNone xs → last_link f p xs ≡ f
last_link-none f p [] h = refl
last_link-none f p (Used bs ∷ xs) h = last_link-none f (p + (4 + length bs)) xs h
last_link-none f p (Hole n ∷ xs) h = absurd h

-- the next hole of a list that stands at p
pub record NextHole (b : List ℕ) (f p : ℕ) (ys : List Segment) : Type 0 where
  pub before : List Segment
  pub size : ℕ
  pub rest : List Segment
  pub is : ys ≡ before ++ Hole size ∷ rest
  pub none : HasNone before
  pub at : f + word b f ≡ p + total size_of before
  pub read : word b (f + word b f + 4) ≡ size

pub next_hole : (b : List ℕ) (f p : ℕ) (ys : List Segment) → f < p → Stand b f p ys → (HasNone ys × (word b f ≡ 0)) ⊎ ((word b f ≢ 0) × NextHole b f p ys)
next_hole b f p [] l h = inl (tt, h)
next_hole b f p (Used bs ∷ ys) l h = elim (next_hole b f (p + (4 + length bs)) ys (omega arith) h.2) [
  | inl e ↦ inl (e.0, e.1)
  | inr (ne, n) ↦ inr (
    ne,
    record {
      before = Used bs ∷ n.before;
      size = n.size;
      rest = n.rest;
      is = ap (λ l. Used bs ∷ l) n.is;
      none = n.none;
      at = (let e = n.at in omega arith);
      read = n.read;
    },
  )
]
next_hole b f p (Hole n ∷ ys) l h = inr ((omega arith), record { before = []; size = n; rest = ys; is = refl; none = tt; at = omega arith; read = rw h.0 h.1 })

-- a link is 0 or leads ahead
pub link_ahead : (b : List ℕ) (f p : ℕ) (ss : List Segment) → f < p → Stand b f p ss → (word b f ≡ 0) ⊎ (p ≤ f + word b f)
link_ahead b f p ss l h = elim (next_hole b f p ss l h) [ inl n ↦ inl n.1 | inr n ↦ let e = n.1.at in inr (omega arith) ]

-- ---- what the bytes spell is one heap
pub segments_in-Stand : (k : ℕ) (b : List ℕ) (f p n : ℕ) (ss : List Segment) → f < p → HasRoom ss → n ≡ total size_of ss → n ≤ k → Stand b f p ss
    → segments_read k b f p n ≡ ss
unfolding segments_read
segments_in-Stand zero b f p n [] l r e m h = refl
segments_in-Stand zero b f p n (Used bs ∷ ss) l r e m h = absurd (omega arith)
segments_in-Stand zero b f p n (Hole i ∷ ss) l r e m h = let big = r.0 in absurd (omega arith)
segments_in-Stand (suc k) b f p zero [] l r e m h = refl
segments_in-Stand (suc k) b f p zero (Used bs ∷ ss) l r e m h = absurd (omega arith)
segments_in-Stand (suc k) b f p zero (Hole i ∷ ss) l r e m h = let big = r.0 in absurd (omega arith)
segments_in-Stand (suc k) b f p (suc n) [] l r e m h = absurd (omega arith)
segments_in-Stand (suc k) b f p (suc n) (Used bs ∷ ss) l r e m h =
    let ne : f + word b f ≢ p = elim (link_ahead b f (p + (4 + length bs)) ss (omega arith) h.2) [ inl z ↦ omega arith | inr a ↦ omega arith ] in
    cond_false (eqb (f + word b f) p) _ _ (eqb_apart (f + word b f) p ne)
    ∙ ap (λ w. Used (part b (p + 4) (w - 4)) ∷ segments_read k b f (p + w) (suc n - w)) h.0
    ∙ ap (λ i. Used (part b (p + 4) i) ∷ segments_read k b f (p + (4 + length bs)) (suc n - (4 + length bs)))
    (let e4 : 4 + length bs - 4 ≡ length bs = omega arith in e4)
    ∙ ap (λ i. Used i ∷ segments_read k b f (p + (4 + length bs)) (suc n - (4 + length bs))) h.1
    ∙ ap (λ i. Used bs ∷ i) (segments_in-Stand k b f (p + (4 + length bs)) (suc n - (4 + length bs)) ss (omega arith) r (omega arith) (omega arith) h.2)
segments_in-Stand (suc k) b f p (suc n) (Hole i ∷ ss) l r e m h =
    let big = r.0 in
    cond_true (eqb (f + word b f) p) _ _ (eqb_same (f + word b f) p h.0)
    ∙ ap (λ w. Hole w ∷ segments_read k b p (p + w) (suc n - w)) h.1
    ∙ ap (λ l. Hole i ∷ l) (segments_in-Stand k b p (p + i) (suc n - i) ss (omega arith) r.1 (omega arith) (omega arith) h.2)

-- the bytes spell at most one heap
pub heap_of-Spells : (b : List ℕ) (at : ℕ) (h : Heap) → Spells b at h → heap_of b at ≡ h
unfolding heap_of
heap_of-Spells b at h s =
    let fits = s.heap.fits in
    let segs = segments_in-Stand (length b) b (at + 4) (at + 16) (word b (at + 8) - 16) h.segments (omega arith)
    (HasRoom-from_tidy false h.segments s.heap.tidy) (omega (arith, s.base)) (omega (arith, s.base, s.within)) s.stand in
    ap (λ (ss : List Segment). let r : Heap = record { segments = ss; end = word b (at + 12) } in r) segs
    ∙ ap (λ (n : ℕ). let r : Heap = record { segments = h.segments; end = n } in r) s.last

pub one_heap : (b : List ℕ) (at : ℕ) (h k : Heap) → Spells b at h → Spells b at k → h ≡ k
one_heap b at h k s t = sym (heap_of-Spells b at h s) ∙ heap_of-Spells b at k t
