-- What the numbers of tracts say of a heap's holes.
use Rattle.rh_heap.proofs.Common.{◌≡◌, ◌≢◌, ℕ, ◌+◌, ◌*◌, ◌/◌, ◌<◌, ◌≤◌, inl, inr, false, zero, suc, List, [], ◌∷◌, ◌++◌, length, refl, sym, ap, subst, ◌∙◌}
use Rattle.rh_heap.proofs.Common.{append_assoc, arith, cases_eq, cases_lt, cond_true, cond_false, eqb, eqb_same, eqb_apart, None, word, total, NonePass}
use Rattle.rh_heap.proofs.Common.{Segment, Used, Hole}
use Rattle.rh_heap.proofs.Common.{Heap, size_of, base, hole_for, Spells, Stand, HasRoom, HasRoom-from_tidy, HasRoom-append, total-append, leb_no}
use Rattle.rh_heap.proofs.Common.{first_at-none, NonePass-append, HasNone, last_link, LinksTo, last_link-append, Stand-split, IsIndex, hole_at, bit, HOLES}
use Rattle.rh_heap.proofs.Common.{get_or}
use Rattle.rh_defs.specs.Heap.{is_hole_for}
use Rattle.rh_defs.proofs.HeapLaws.{last_link_range, NextHole, next_hole}
use Rattle.rh_heap.specs.TractNumbers.{AreMarked, AreMore}
use Rattle.rh_store.specs.Tracts.{AreBelow, ArePeaks}
use Rattle.rh_heap.proofs.BitLaws.{bit_zero}
use Rattle.rh_heap.specs.Inner.HolesPassed.{Passed, IsLinkBefore, with_number}
use Rattle.rh_heap.proofs.ClaimLaws.{PassedOn, passed_start, walk_turn}
use Rattle.rh_heap.proofs.Common.{◌^◌, replicate, length-replicate}
use Rattle.rh_peaks.specs.Peaks.{FirstPeak, HasWidth, IsTree, peak}
use Rattle.rh_peaks.proofs.PeakLaws.{max_zero}
use Rattle.rh_heap.specs.HeapStarts.{LinkBelow, no_hole, a_hole}
use Rattle.rh_heap.proofs.StartLaws.{once_apart}

-- ---- a tract's number
pub number_here : (i n : ℕ) (f : ℕ → ℕ) (j : ℕ) → j ≡ i → with_number i n f j ≡ n
number_here i n f j e = cond_true (eqb j i) n (f j) (eqb_same j i e)

pub number_other : (i n : ℕ) (f : ℕ → ℕ) (j : ℕ) → j ≢ i → with_number i n f j ≡ f j
number_other i n f j ne = cond_false (eqb j i) n (f j) (eqb_apart j i ne)

-- ---- lists
pub below_join : (f : ℕ → ℕ) (q : ℕ) (xs ys : List Segment) → AreBelow f q xs → AreBelow f (q + total size_of xs) ys → AreBelow f q (xs ++ ys)
below_join f q [] ys a b = subst (λ p. AreBelow f p ys) (let e : q + 0 ≡ q = omega arith in e) b
below_join f q (Used bs ∷ xs) ys a b = below_join f (q + (4 + length bs)) xs ys a
    (subst (λ p. AreBelow f p ys) (let e : q + (4 + length bs + total size_of xs) ≡ q + (4 + length bs) + total size_of xs = omega arith in e) b)
below_join f q (Hole n ∷ xs) ys a b = (
  a.0,
  below_join f (q + n) xs ys a.1
      (subst (λ p. AreBelow f p ys) (let e : q + (n + total size_of xs) ≡ q + n + total size_of xs = omega arith in e) b),
)

pub below_split : (f : ℕ → ℕ) (q : ℕ) (xs ys : List Segment) → AreBelow f q (xs ++ ys) → AreBelow f q xs × AreBelow f (q + total size_of xs) ys
below_split f q [] ys a = (tt, subst (λ p. AreBelow f p ys) (let e : q ≡ q + 0 = omega arith in e) a)
below_split f q (Used bs ∷ xs) ys a =
    let r = below_split f (q + (4 + length bs)) xs ys a in
    (r.0, subst (λ p. AreBelow f p ys) (let e : q + (4 + length bs) + total size_of xs ≡ q + (4 + length bs + total size_of xs) = omega arith in e) r.1)
below_split f q (Hole n ∷ xs) ys a =
    let r = below_split f (q + n) xs ys a.1 in
    ((a.0, r.0), subst (λ p. AreBelow f p ys) (let e : q + n + total size_of xs ≡ q + (n + total size_of xs) = omega arith in e) r.1)

-- larger numbers
pub below_more : (f g : ℕ → ℕ) (q : ℕ) (xs : List Segment) → ((i : ℕ) → f i ≤ g i) → AreBelow f q xs → AreBelow g q xs
below_more f g q [] le a = tt
below_more f g q (Used bs ∷ xs) le a = below_more f g (q + (4 + length bs)) xs le a
below_more f g q (Hole n ∷ xs) le a = (let m = le (q / 2048) in let b = a.0 in omega arith, below_more f g (q + n) xs le a.1)

-- that are larger from a place on
pub below_from : (f g : ℕ → ℕ) (low q : ℕ) (xs : List Segment) → low ≤ q → ((i : ℕ) → low < 2048 * (i + 1) → f i ≤ g i) → AreBelow f q xs → AreBelow g q xs
below_from f g low q [] l le a = tt
below_from f g low q (Used bs ∷ xs) l le a = below_from f g low (q + (4 + length bs)) xs (omega arith) le a
below_from f g low q (Hole n ∷ xs) l le a =
    (let m = le (q / 2048) (omega arith) in let b = a.0 in omega arith, below_from f g low (q + n) xs (omega arith) le a.1)

-- that are larger up to a place
pub below_up_to : (f g : ℕ → ℕ) (upper q : ℕ) (xs : List Segment) → HasRoom xs → q + total size_of xs ≤ upper → ((i : ℕ) → 2048 * i < upper → f i ≤ g i)
    → AreBelow f q xs → AreBelow g q xs
below_up_to f g upper q [] r u le a = tt
below_up_to f g upper q (Used bs ∷ xs) r u le a = below_up_to f g upper (q + (4 + length bs)) xs r (omega arith) le a
below_up_to f g upper q (Hole n ∷ xs) r u le a =
    (let big = r.0 in let m = le (q / 2048) (omega arith) in let b = a.0 in omega arith, below_up_to f g upper (q + n) xs r.1 (omega arith) le a.1)

-- no holes
pub below_none : (f : ℕ → ℕ) (q : ℕ) (xs : List Segment) → HasNone xs → AreBelow f q xs
below_none f q [] n = tt
below_none f q (Used bs ∷ xs) n = below_none f (q + (4 + length bs)) xs n
below_none f q (Hole m ∷ xs) n = absurd n

-- ---- what has no room
-- numbers less than a size, up to a place
pub none_below : (f : ℕ → ℕ) (t upper q : ℕ) (xs : List Segment) → HasRoom xs → q + total size_of xs ≤ upper → ((i : ℕ) → 2048 * i < upper → f i < t)
    → AreBelow f q xs → NonePass size_of (is_hole_for t) q xs
none_below f t upper q [] r u le a = tt
none_below f t upper q (Used bs ∷ xs) r u le a = (refl, none_below f t upper (q + (4 + length bs)) xs r (omega arith) le a)
none_below f t upper q (Hole n ∷ xs) r u le a =
    let big = r.0 in
    let m = le (q / 2048) (omega arith) in
    let b = a.0 in
    (leb_no t n (omega arith), none_below f t upper (q + n) xs r.1 (omega arith) le a.1)

-- ---- holes before a link
-- all of them begin at the last link or before it
front_below : (f : ℕ → ℕ) (tract n at p q : ℕ) (xs : List Segment) → HasRoom xs → p + 4 ≤ at + q
    → (last_link p (at + q) xs ≢ p → last_link p (at + q) xs < at + 2048 * tract) → AreBelow f q xs → AreBelow (with_number tract n f) q xs
front_below f tract n at p q [] r l z a = tt
front_below f tract n at p q (Used bs ∷ xs) r l z a =
    let e : at + q + (4 + length bs) ≡ at + (q + (4 + length bs)) = omega arith in
    front_below f tract n at p (q + (4 + length bs)) xs r (omega arith)
    (subst (λ k. last_link p k xs ≢ p → last_link p k xs < at + 2048 * tract) e z) a
front_below f tract n at p q (Hole m ∷ xs) r l z a =
    let big = r.0 in
    let e : at + q + m ≡ at + (q + m) = omega arith in
    let range = last_link_range (at + q) (at + q + m) xs r.1 (omega arith) in
    let under : last_link (at + q) (at + q + m) xs < at + 2048 * tract = elim range [
      | inl same ↦ z (λ bad. absurd (omega arith))
      | inr on ↦ z (λ bad. absurd (omega (arith, on.0)))
    ] in
    let first : at + q < at + 2048 * tract = elim range [ inl same ↦ omega arith | inr on ↦ omega (arith, on.0) ] in (
      subst (λ k. m ≤ k) (sym (number_other tract n f (q / 2048) (omega arith))) a.0,
      front_below f tract n at (at + q) (q + m) xs r.1 (omega arith)
          (subst (λ k. last_link (at + q) k xs ≢ at + q → last_link (at + q) k xs < at + 2048 * tract) e (λ ne. under)) a.1,
    )

-- ---- the search through a tract
-- It has come to a link. Whatever numbers the holes are below, those up to there are below them also with the most for this tract.
pub record Walked (at : ℕ) (h : Heap) (t tract from most : ℕ) : Type 0 where
  pub passed : Passed at h t from
  pub below : (f : ℕ → ℕ) → AreBelow f 16 h.segments → AreBelow (with_number tract most f) 16 passed.before
  pub less : most < t

module _ (b : List ℕ) (at : ℕ) (h : Heap) (s : Spells b at h) where
  room_all : HasRoom h.segments
  room_all = HasRoom-from_tidy false h.segments s.heap.tidy

  pub walked_start : (t tract link : ℕ) → 0 < t → Passed at h t link → (link ≢ 4 → link < 2048 * tract) → Walked at h t tract link 0
  walked_start t tract link some p before = record {
    passed = p;
    below = λ f a.
        let parts = below_split f 16 p.before p.rest (subst (AreBelow f 16) p.is a) in
        let room = (HasRoom-append p.before p.rest (subst HasRoom p.is room_all)).0 in
        let links = p.link in
        front_below f tract 0 at (at + 4) 16 p.before room (omega arith)
        (λ ne. let l = before (λ e. ne (sym links ∙ ap (λ i. at + i) e)) in omega arith) parts.0;
    less = some;
  }

  -- one hole more
  pub walked_on : (t tract from most place size most' : ℕ) (w : Walked at h t tract from most) → (p : PassedOn at h t place size w.passed.before) → most ≤ most'
      → size ≤ most'
      → most' < t → Walked at h t tract place most'
  walked_on t tract from most place size most' w p up here small = record {
    passed = p.walk;
    below = λ f a.
        let old = w.passed.before in
        let g = with_number tract most f in
        let g' = with_number tract most' f in
        let more : (i : ℕ) → g i ≤ g' i =
        λ i. elim (cases_eq i tract) [
          | inl e ↦ omega (arith, number_here tract most f i e, number_here tract most' f i e)
          | inr ne ↦ omega (arith, number_other tract most f i ne, number_other tract most' f i ne)
        ] in
        let front = old ++ p.skipped in
        let whole : h.segments ≡ (front ++ Hole size ∷ []) ++ p.walk.rest = p.walk.is ∙ ap (λ l. l ++ p.walk.rest) p.before_is in
        let parts = below_split f 16 (front ++ Hole size ∷ []) p.walk.rest (subst (AreBelow f 16) whole a) in
        let ends = below_split f 16 front (Hole size ∷ []) parts.0 in
        let q = 16 + total size_of front in
        let fits : size ≤ g' (q / 2048) = elim (cases_eq (q / 2048) tract) [
          | inl e ↦ omega (arith, number_here tract most' f (q / 2048) e)
          | inr ne ↦ omega (arith, number_other tract most' f (q / 2048) ne, ends.1.0)
        ] in
        subst (AreBelow g' 16) (sym p.before_is)
        (below_join g' 16 front (Hole size ∷ [])
        (below_join g' 16 old p.skipped (below_more g g' 16 old more (w.below f a)) (below_none g' (16 + total size_of old) p.skipped p.none))
        (fits, tt));
    less = small;
  }

  -- the next hole begins behind the tract, or there is none
  pub walked_end : (t tract from most place : ℕ) (w : Walked at h t tract from most) → LinksTo b at (at + from) place
      → (place ≢ 0 → 2048 * (tract + 1) ≤ place) → (f : ℕ → ℕ) → AreBelow f 16 h.segments → AreBelow (with_number tract most f) 16 h.segments
  walked_end t tract from most place w k past f a =
      let p = w.passed in
      let xs = p.before in
      let ys = p.rest in
      let g = with_number tract most f in
      let links = last_link (at + 4) (at + 16) xs in
      let room = (HasRoom-append xs ys (subst HasRoom p.is room_all)).0 in
      let parts = Stand-split b (at + 4) (at + 16) xs ys (subst (Stand b (at + 4) (at + 16)) p.is s.stand) in
      let q = 16 + total size_of xs in
      let low : links < at + 16 + total size_of xs = elim (last_link_range (at + 4) (at + 16) xs room
      (omega arith)) [ inl e ↦ omega arith | inr r ↦ omega arith ] in
      let step = next_hole b links (at + 16 + total size_of xs) ys low parts.1 in
      let here : word b (at + from) ≡ word b links = ap (word b) p.link in
      let rest = below_split f 16 xs ys (subst (AreBelow f 16) p.is a) in
      let behind : AreBelow g q ys = elim step [
        | inl n ↦ below_none g q ys n.0
        | inr n ↦ further place (n.0) n.1 rest.1 k past here
      ] in
      subst (AreBelow g 16) (sym p.is) (below_join g 16 xs ys (w.below f a) behind)
    where
      further : (place : ℕ) → word b (last_link (at + 4) (at + 16) w.passed.before) ≢ 0
          → NextHole b (last_link (at + 4) (at + 16) w.passed.before) (at + 16 + total size_of w.passed.before) w.passed.rest
          → AreBelow f (16 + total size_of w.passed.before) w.passed.rest → LinksTo b at (at + from) place → (place ≢ 0 → 2048 * (tract + 1) ≤ place)
          → word b (at + from) ≡ word b (last_link (at + 4) (at + 16) w.passed.before)
          → AreBelow (with_number tract most f) (16 + total size_of w.passed.before) w.passed.rest
      further place some n a k past here =
          let q = 16 + total size_of w.passed.before in
          let g = with_number tract most f in
          let there : place ≢ 0 = λ z. some (sym here ∙ k.none z) in
          let on = k.some there in
          let links = w.passed.link in
          let at_it : place ≡ q + total size_of n.before = let e = n.at in omega arith in
          let far = past there in
          let cut = below_split f q n.before (Hole n.size ∷ n.rest) (subst (AreBelow f q) n.is a) in
          subst (AreBelow g q) (sym n.is) (below_join g q n.before (Hole n.size ∷ n.rest) (below_none g q n.before n.none)
          (below_from f g (2048 * (tract + 1)) (q + total size_of n.before) (Hole n.size ∷ n.rest) (omega arith)
          (λ i more. let o = number_other tract most f i (omega arith) in omega arith) cut.1))

-- ---- the link before a tract
pub record HoleHere (p q : ℕ) (ss : List Segment) : Type 0 where
  pub front : List Segment
  pub size : ℕ
  pub behind : List Segment
  pub is : ss ≡ front ++ Hole size ∷ behind
  pub place : p ≡ q + total size_of front

pub hole_there : (p q : ℕ) (ss : List Segment) → hole_at p q ss ≡ 1 → HoleHere p q ss
hole_there p q [] o = absurd (omega arith)
hole_there p q (Used bs ∷ ss) o =
    let r = hole_there p (q + (4 + length bs)) ss o in
    let at = r.place in
    record { front = Used bs ∷ r.front; size = r.size; behind = r.behind; is = ap (λ l. Used bs ∷ l) r.is; place = omega arith }
hole_there p q (Hole n ∷ ss) o = elim (cases_eq p q) [
  | inl e ↦ record { front = []; size = n; behind = ss; is = refl; place = omega arith }
  | inr ne ↦
      let r = hole_there p (q + n) ss (let z = once_apart p q ne in omega arith) in
      let at = r.place in
      record { front = Hole n ∷ r.front; size = r.size; behind = r.behind; is = ap (λ l. Hole n ∷ l) r.is; place = omega arith }
]

pub free_is_before : (starts : List ℕ) (tract : ℕ) → IsLinkBefore starts tract 4
free_is_before starts tract = record { below = λ ne. absurd (ne refl); multiple = λ ne. absurd (ne refl); marked = λ ne. absurd (ne refl) }

pub link_is_before : (starts : List ℕ) (tract place link : ℕ) → place ≡ 2048 * tract → LinkBelow starts place link → IsLinkBefore starts tract link
link_is_before starts tract place link e k = elim k [
  | no_hole free none ↦ subst (IsLinkBefore starts tract) (sym free) (free_is_before starts tract)
  | a_hole n is l ↦
      let under = l.below in
      record {
        below = λ ne. omega arith;
        multiple = λ ne. omega arith;
        marked = λ ne. ap (bit HOLES starts) (let same : link / 8 ≡ n = omega arith in same) ∙ l.is_set;
      }
]

module _ (b : List ℕ) (at : ℕ) (h : Heap) (s : Spells b at h) (starts : List ℕ) (i : IsIndex starts h) where
  -- the holes before a tract are passed where no number there is as large as the size
  pub passed_before : (f : ℕ → ℕ) (t tract link : ℕ) → AreBelow f 16 h.segments → ((j : ℕ) → j < tract → f j < t) → IsLinkBefore starts tract link
      → Passed at h t link
  passed_before f t tract link a less k = elim (cases_eq link 4) [
    | inl e ↦ subst (Passed at h t) (sym e) (passed_start at h t)
    | inr ne ↦
        let low = k.below ne in
        let even = k.multiple ne in
        let e8 : 8 * (link / 8) ≡ link = omega arith in
        let z = hole_there link 16 h.segments (ap (λ p. hole_at p 16 h.segments) (sym e8) ∙ sym (i.holes (link / 8)) ∙ k.marked ne) in
        let front = z.front ++ Hole z.size ∷ [] in
        let is : h.segments ≡ front ++ z.behind = z.is ∙ sym (append_assoc z.front (Hole z.size ∷ []) z.behind) in
        let place = z.place in
        let rooms = HasRoom-append z.front (Hole z.size ∷ z.behind) (subst HasRoom z.is (HasRoom-from_tidy false h.segments s.heap.tidy)) in
        let big = rooms.1.0 in
        let parts = below_split f 16 z.front (Hole z.size ∷ z.behind) (subst (AreBelow f 16) z.is a) in
        let sums = ap (total size_of) z.is ∙ total-append z.front (Hole z.size ∷ z.behind) in
        let q = 16 + total size_of z.front in
        let one = less (q / 2048) (omega arith) in
        let fits = parts.1.0 in
        record {
          before = front;
          rest = z.behind;
          is = is;
          link = omega (arith, last_link-append (at + 4) (at + 16) z.front (Hole z.size ∷ []));
          none = NonePass-append size_of (is_hole_for t) 16 z.front (Hole z.size ∷ [])
              (none_below f t (2048 * tract) 16 z.front rooms.0 (omega arith) (λ j under. less j (omega arith)) parts.0)
              (leb_no t z.size (omega arith), tt);
          inside = omega arith;
        }
  ]

-- lines of tracts without a number have no hole
pub none_marked : (starts nodes : List ℕ) → AreMarked starts nodes → (behind line : ℕ)
    → ((i : ℕ) → behind ≤ i → i < line → (i / 4 < length nodes / 2) × (peak nodes (i / 4) ≡ 0))
    → (j : ℕ) → 64 * behind ≤ j → j < 64 * line → bit HOLES starts j ≡ 0
none_marked starts nodes marked behind line empty j from to =
    let e = empty (j / 64) (omega arith) (omega arith) in
    let same : 8 * j / 2048 ≡ j / 64 / 4 = omega arith in
    bit_zero HOLES starts j (λ one. marked j (subst (λ i. i < length nodes / 2) (sym same) e.0) one (ap (peak nodes) same ∙ e.1))

-- the number of a hole's tract isn't 0
pub marked_some : (b : List ℕ) (at : ℕ) (h : Heap) → Spells b at h → (starts : List ℕ) → IsIndex starts h → (f : ℕ → ℕ) → AreBelow f 16 h.segments → (k : ℕ)
    → bit HOLES starts k ≡ 1 → f (8 * k / 2048) ≢ 0
marked_some b at h s starts i f a k one nil =
    let z = hole_there (8 * k) 16 h.segments (sym (i.holes k) ∙ one) in
    let room = HasRoom-append z.front (Hole z.size ∷ z.behind) (subst HasRoom z.is (HasRoom-from_tidy false h.segments s.heap.tidy)) in
    let big = room.1.0 in
    let parts = below_split f 16 z.front (Hole z.size ∷ z.behind) (subst (AreBelow f 16) z.is a) in
    let most : z.size ≤ f (8 * k / 2048) = subst (λ q. z.size ≤ f (q / 2048)) (sym z.place) parts.1.0 in
    omega arith

-- no hole has room where no number is as large as the size
pub none_at_all : (b : List ℕ) (at : ℕ) (h : Heap) → Spells b at h → (f : ℕ → ℕ) (t w : ℕ) → AreBelow f 16 h.segments → h.end ≤ 2048 * w
    → ((j : ℕ) → j < w → f j < t) → hole_for t h.segments ≡ None
none_at_all b at h s f t w a long less =
    let fits = s.heap.fits in
    first_at-none size_of (is_hole_for t) 16 h.segments
    (none_below f t (base h) 16 h.segments (HasRoom-from_tidy false h.segments s.heap.tidy) (omega arith) (λ i under. less i (omega arith)) a)

-- ---- numbers are made
zeros_at : (n j : ℕ) → get_or (replicate {A = ℕ} n 0) j 0 ≡ 0
zeros_at zero j = refl
zeros_at (suc n) zero = refl
zeros_at (suc n) (suc j) = zeros_at n j

-- all holes up to a link have numbers
pub record Numbered (at : ℕ) (h : Heap) (nodes : List ℕ) (from : ℕ) : Type 0 where
  pub passed : Passed at h (2 ^ 32) from
  pub tree : IsTree nodes
  pub below : length nodes ≢ 0 → AreBelow (peak nodes) 16 passed.before

pub numbered_start : (at : ℕ) (h : Heap) (nodes : List ℕ) (n : ℕ) → HasWidth n → nodes ≡ replicate {A = ℕ} n 0 → Numbered at h nodes 4
numbered_start at h nodes n width e =
    let long = ap length e ∙ length-replicate {A = ℕ} n 0 in
    let zeros : (j : ℕ) → get_or nodes j 0 ≡ 0 = λ j. ap (λ l. get_or l j 0) e ∙ zeros_at n j in
    record {
      passed = record { before = []; rest = h.segments; is = refl; link = refl; none = tt; inside = omega arith };
      tree = record {
        width = subst HasWidth (sym long) width;
        larger = λ k some less. zeros k ∙ sym (max_zero (get_or nodes (2 * k) 0) (get_or nodes (2 * k + 1) 0) (zeros (2 * k)) (zeros (2 * k + 1)));
      };
      below = λ row. tt;
    }

-- numbers that are no less, up to the heap's base
pub below_raised : (b : List ℕ) (at : ℕ) (h : Heap) → Spells b at h → (old new : List ℕ) (xs ys : List Segment) → h.segments ≡ xs ++ ys → AreMore old new
    → h.end ≤ 2048 * (length old / 2) → AreBelow (peak old) 16 xs → AreBelow (peak new) 16 xs
below_raised b at h s old new xs ys is more long a =
    let fits = s.heap.fits in
    let room = (HasRoom-append xs ys (subst HasRoom is (HasRoom-from_tidy false h.segments s.heap.tidy))).0 in
    let sums = ap (total size_of) is ∙ total-append xs ys in
    below_up_to (peak old) (peak new) (base h) 16 xs room (omega arith) (λ i under. more i (omega arith)) a

pub numbered_on : (b : List ℕ) (at : ℕ) (h : Heap) → Spells b at h → (old new : List ℕ) (from place size : ℕ) (w : Numbered at h old from)
    → (p : PassedOn at h (2 ^ 32) place size w.passed.before) → (length old ≢ 0 → h.end ≤ 2048 * (length old / 2)) → IsTree new → AreMore old new
    → (place / 2048 < length old / 2 → size ≤ peak new (place / 2048)) → length new ≡ length old → Numbered at h new place
numbered_on b at h s old new from place size w p long tree more here el = record {
  passed = p.walk;
  tree = tree;
  below = λ row.
      let front = w.passed.before ++ p.skipped in
      let q = 16 + total size_of front in
      let whole : h.segments ≡ (front ++ Hole size ∷ []) ++ p.walk.rest = p.walk.is ∙ ap (λ l. l ++ p.walk.rest) p.before_is in
      let there : length old ≢ 0 = λ z. row (el ∙ z) in
      let up_to = long there in
      let first = below_raised b at h s old new w.passed.before w.passed.rest w.passed.is more up_to (w.below there) in
      let both = below_join (peak new) 16 w.passed.before p.skipped first (below_none (peak new) (16 + total size_of w.passed.before) p.skipped p.none) in
      let fits = s.heap.fits in
      let sums = ap (total size_of) whole ∙ total-append (front ++ Hole size ∷ []) p.walk.rest in
      let ends = total-append front (Hole size ∷ []) in
      let links = p.walk.link in
      let last : at + place ≡ at + q = links ∙ ap (last_link (at + 4) (at + 16)) p.before_is ∙ last_link-append (at + 4) (at + 16) front (Hole size ∷ [])
      ∙ omega arith in
      let room = (HasRoom-append (front ++ Hole size ∷ []) p.walk.rest (subst HasRoom whole (HasRoom-from_tidy false h.segments s.heap.tidy))).0 in
      let big = (HasRoom-append front (Hole size ∷ []) room).1.0 in
      let most : size ≤ peak new (q / 2048) = subst (λ x. size ≤ peak new (x / 2048)) (let e : place ≡ q = omega arith in e) (here (omega arith)) in
      subst (AreBelow (peak new) 16) (sym p.before_is) (below_join (peak new) 16 front (Hole size ∷ []) both (most, tt));
}

pub numbered_all : (b : List ℕ) (at : ℕ) (h : Heap) → Spells b at h → (nodes : List ℕ) (from place : ℕ) (w : Numbered at h nodes from)
    → LinksTo b at (at + from) place → place ≡ 0 → length nodes < 2 ^ 40 → (length nodes ≢ 0 → h.end ≤ 2048 * (length nodes / 2)) → ArePeaks nodes h
numbered_all b at h s nodes from place w k z few long =
    let t = walk_turn b at h (2 ^ 32) from place s w.passed k in
    let none = t.no_more z in
    record {
      tree = w.tree;
      few = few;
      long = long;
      below = λ row. subst (AreBelow (peak nodes) 16) (sym w.passed.is)
          (below_join (peak nodes) 16 w.passed.before w.passed.rest (w.below row)
          (below_none (peak nodes) (16 + total size_of w.passed.before) w.passed.rest none));
    }

-- ---- a tract's number becomes less
module _ (b : List ℕ) (at : ℕ) (h : Heap) (s : Spells b at h) (old new : List ℕ) (p : ArePeaks old h) (row : length old ≢ 0) where
  pub peaks_put : (tract most : ℕ) → IsTree new → peak new tract ≡ most → ((j : ℕ) → j < length old / 2 → j ≢ tract → peak new j ≡ peak old j)
      → length new ≡ length old → ((f : ℕ → ℕ) → AreBelow f 16 h.segments → AreBelow (with_number tract most f) 16 h.segments) → ArePeaks new h
  peaks_put tract most tree here others el lowered =
      let long = p.long row in
      let half : length new / 2 ≡ length old / 2 = ap (λ n. n / 2) el in
      let fits = s.heap.fits in
      record {
        tree = tree;
        few = (let f = p.few in omega arith);
        long = λ some. omega arith;
        below = λ some. below_up_to (with_number tract most (peak old)) (peak new) (base h) 16 h.segments (HasRoom-from_tidy false h.segments s.heap.tidy)
            (omega arith)
            (λ i under. elim (cases_eq i tract) [
              | inl e ↦ omega (arith, number_here tract most (peak old) i e, ap (peak new) e, here)
              | inr ne ↦ omega (arith, number_other tract most (peak old) i ne, others i (omega arith) ne)
            ])
            (lowered (peak old) (p.below row));
      }

  pub less_put : (tract most t : ℕ) → peak new tract ≡ most → ((j : ℕ) → j < length old / 2 → j ≢ tract → peak new j ≡ peak old j) → most < t
      → FirstPeak old t tract → (j : ℕ) → j < tract + 1 → peak new j < t
  less_put tract most t here others small first j under =
      let inside = first.within in
      elim (cases_eq j tract) [
        | inl e ↦ omega (arith, ap (peak new) e, here)
        | inr ne ↦ omega (arith, others j (omega arith) ne, first.none j (omega arith))
      ]

-- the first tract whose number is large enough is none of those whose numbers are smaller
pub first_on : (nodes : List ℕ) (t next tract : ℕ) → ((j : ℕ) → j < next → peak nodes j < t) → FirstPeak nodes t tract → next ≤ tract
first_on nodes t next tract less first = elim (cases_lt tract next) [
  | inl under ↦ absurd (let l = less tract under in let f = first.fits in omega arith)
  | inr on ↦ on
]
