-- Claims and releases write one place of a heap's map.
use Rattle.rh_safety.proofs.Common.{◌≡◌, ◌≢◌, ℕ, zero, suc, ◌+◌, ◌-◌, ◌≤◌, ◌<◌, true, false, List, [], ◌∷◌, ◌++◌, length, Option, Some, None, refl, sym, ap}
use Rattle.rh_safety.proofs.Common.{◌∙◌, inl, inr, arith, nat_eq, option_map, eqb_tells, eq-eqb, total, Split, behind, first_at, with_here, Segment, Used}
use Rattle.rh_safety.proofs.Common.{Hole, Heap, size_of, first_place, place_after, is_block_at, Placed, released, Way, Stays, Shrinks, GrowsIntoHole}
use Rattle.rh_safety.proofs.Common.{GrowsAtTop, MovesToHole, MovesToTop, put, none_some}
use Rattle.rh_defs.specs.Heap.{base, with_hole, joined, placed_in, release_block, release_found, resized_by}
use Rattle.rh_safety.proofs.HeapMap.{bytes_at, heap_map, CutOf, HoleFor, BlockOf, IsClaimed, IsReleased, IsMoved, CanGo}

-- the first of two
abbrev or_else : Option (List ℕ) → Option (List ℕ) → Option (List ℕ)
or_else None b = b
or_else (Some x) b = Some x

at_append : (place : ℕ) (xs ys : List Segment) (a : ℕ) →
    bytes_at place (xs ++ ys) a ≡ or_else (bytes_at place xs a) (bytes_at (place + total size_of xs) ys a)
at_append place [] ys a = ap (λ p. bytes_at p ys a) (omega arith)
at_append place (Hole n ∷ xs) ys a = at_append (place + n) xs ys a ∙ ap (λ p. or_else (bytes_at (place + n) xs a)
    (bytes_at p ys a)) (omega arith)
at_append place (Used b ∷ xs) ys a = elim (eqb_tells a (place + 4)) [
  | inl w ↦ rw w.0 refl
  | inr w ↦ rw w.0 (at_append (place + (4 + length b)) xs ys a ∙ ap (λ p. or_else (bytes_at (place + (4 + length b))
      xs a) (bytes_at p ys a)) (omega arith))
]

-- where blocks lie
at_least : (place : ℕ) (xs : List Segment) (a : ℕ) (b : List ℕ) → bytes_at place xs a ≡ Some b → place + 4 ≤ a
at_least place [] a b q = absurd (none_some None refl q)
at_least place (Hole n ∷ xs) a b q = let r = at_least (place + n) xs a b q in omega arith
at_least place (Used c ∷ xs) a b q = elim (eqb_tells a (place + 4)) [
  | inl w ↦ let z = w.1 in omega arith
  | inr w ↦ let r = at_least (place + (4 + length c)) xs a b (rw w.0 at q) in omega arith
]

at_most : (place : ℕ) (xs : List Segment) (a : ℕ) (b : List ℕ) → bytes_at place xs a ≡ Some b →
    a ≤ place + total size_of xs
at_most place [] a b q = absurd (none_some None refl q)
at_most place (Hole n ∷ xs) a b q = let r = at_most (place + n) xs a b q in omega arith
at_most place (Used c ∷ xs) a b q = elim (eqb_tells a (place + 4)) [
  | inl w ↦ let z = w.1 in omega arith
  | inr w ↦ let r = at_most (place + (4 + length c)) xs a b (rw w.0 at q) in omega arith
]

is_none_if : (o : Option (List ℕ)) → ((b : List ℕ) → o ≡ Some b → ⊥) → o ≡ None
is_none_if None f = refl
is_none_if (Some b) f = absurd (f b refl)

none_before : (place : ℕ) (xs : List Segment) (a : ℕ) → place + total size_of xs < a → bytes_at place xs a ≡ None
none_before place xs a lt = is_none_if (bytes_at place xs a) (λ b q. let r = at_most place xs a b q in omega arith)

none_after : (place : ℕ) (xs : List Segment) (a : ℕ) → a < place + 4 → bytes_at place xs a ≡ None
none_after place xs a lt = is_none_if (bytes_at place xs a) (λ b q. let r = at_least place xs a b q in omega arith)

-- holes
at_hole : (place n : ℕ) (xs : List Segment) (a : ℕ) → bytes_at place (with_hole n xs) a ≡ bytes_at (place + n) xs a
at_hole place zero xs a = ap (λ p. bytes_at p xs a) (omega arith)
at_hole place (suc n) [] a = refl
at_hole place (suc n) (Hole m ∷ xs) a = ap (λ p. bytes_at p xs a) (omega arith)
at_hole place (suc n) (Used b ∷ xs) a = refl

at_joined : (place : ℕ) (xs : List Segment) (a : ℕ) → bytes_at place (joined xs) a ≡ bytes_at place xs a
at_joined place [] a = refl
at_joined place (Used b ∷ xs) a = elim (eqb_tells a (place + 4)) [
  | inl w ↦ rw w.0 refl
  | inr w ↦ rw w.0 (at_joined (place + (4 + length b)) xs a)
]
at_joined place (Hole n ∷ xs) a = at_hole place n (joined xs) a ∙ at_joined (place + n) xs a

-- what a map has round a cut
around : (h : Heap) (s : Split Segment) → CutOf h s → (a : ℕ) →
    heap_map h a ≡ or_else (bytes_at first_place s.before a) (bytes_at (place_after s.before) (s.here ∷ s.after) a)
around h s c a = ap (λ xs. bytes_at first_place xs a) (sym c.whole) ∙ at_append first_place s.before
    (s.here ∷ s.after) a

-- a block in a hole
pub in_hole : (bytes : List ℕ) (h : Heap) (s : Split Segment) → HoleFor (length bytes) h s →
    IsClaimed h (placed_in bytes h (Some s)) bytes
in_hole bytes h s c =
    let p = place_after s.before in
    let size = c.size in
    let room = c.room in
    let old : (a : ℕ) → heap_map h a ≡ or_else (bytes_at first_place s.before a) (bytes_at (p + size) s.after a) = λ a.
    around h s c.cut a ∙ ap (λ g. or_else (bytes_at first_place s.before a) (bytes_at p (g ∷ s.after) a)) c.here in
    let same : size_of s.here ≡ size = ap size_of c.here in
    let left = size_of s.here - (4 + length bytes) in
    record {
      free = old (p + 4) ∙ ap (λ o. or_else o (bytes_at (p + size) s.after (p + 4))) (none_before first_place s.before
          (p + 4) (omega arith)) ∙ none_after (p + size) s.after (p + 4) (omega arith);
      written = λ a.
          at_append first_place s.before (Used bytes ∷ with_hole left s.after) a ∙
          elim (eqb_tells a (p + 4)) [
            | inl w ↦ rw w.0 (ap (λ o. or_else o (Some bytes)) (none_before first_place s.before a (let z = w.1 in
                omega arith)))
            | inr w ↦ rw w.0 (ap (or_else (bytes_at first_place s.before a)) (at_hole (p + (4 + length bytes)) left
                s.after a ∙ ap (λ q. bytes_at q s.after a) (omega arith)) ∙ sym (old a))
          ];
    }

-- a block above all segments
pub on_top : (bytes : List ℕ) (h : Heap) → IsClaimed h (placed_in bytes h None) bytes
on_top bytes h =
    let p = base h in
    record {
      free = none_before first_place h.segments (p + 4) (omega arith);
      written = λ a.
          at_append first_place h.segments (Used bytes ∷ []) a ∙
          elim (eqb_tells a (p + 4)) [
            | inl w ↦ rw w.0 (ap (λ o. or_else o (Some bytes)) (none_before first_place h.segments a (let z = w.1 in
                omega arith)))
            | inr w ↦ rw w.0 (or_none (bytes_at first_place h.segments a))
          ];
    }
  where
    or_none : (o : Option (List ℕ)) → or_else o None ≡ o
    or_none None = refl
    or_none (Some b) = refl

-- the block at a cut
pub there : (bytes : List ℕ) (h : Heap) (s : Split Segment) → BlockOf bytes h s →
    heap_map h (place_after s.before + 4) ≡ Some bytes
there bytes h s c =
    let p = place_after s.before in
    let one : nat_eq (p + 4) (p + 4) ≡ true = eq-eqb _ _ refl in
    around h s c.cut (p + 4) ∙ ap (λ g. or_else (bytes_at first_place s.before (p + 4)) (bytes_at p (g ∷ s.after)
    (p + 4))) c.here ∙
    ap (λ o. or_else o (bytes_at p (Used bytes ∷ s.after) (p + 4))) (none_before first_place s.before (p + 4)
    (omega arith)) ∙ rw one refl

pub cleared : (bytes : List ℕ) (h : Heap) (s : Split Segment) → BlockOf bytes h s →
    IsReleased h (released s h) (place_after s.before + 4)
cleared bytes h s c a =
    let p = place_after s.before in
    let size = size_of s.here in
    let same : size ≡ 4 + length bytes = ap size_of c.here in
    at_joined first_place (with_here s (Hole size)) a ∙ at_append first_place s.before (Hole size ∷ s.after) a ∙
    elim (eqb_tells a (p + 4)) [
      | inl w ↦ rw w.0 (ap (λ o. or_else o (bytes_at (p + size) s.after a)) (none_before first_place s.before a
          (let z = w.1 in omega arith)) ∙ none_after (p + size) s.after a (let z = w.1 in omega arith))
      | inr w ↦ rw w.0 (sym (around h s c.cut a ∙ ap (λ g. or_else (bytes_at first_place s.before a)
          (bytes_at p (g ∷ s.after) a)) c.here ∙ rw w.0 (ap (λ q. or_else (bytes_at first_place s.before a)
          (bytes_at q s.after a)) (ap (λ k. p + k) (sym same)))))
    ]

-- ---- resizes

put_same : {A : Type 0} (f : ℕ → A) (h : ℕ) (x : A) → put f h x h ≡ x
put_same f h x = let t : nat_eq h h ≡ true = eq-eqb _ _ refl in rw t refl

put_other : {A : Type 0} (f : ℕ → A) (h : ℕ) (x : A) (k : ℕ) → k ≢ h → put f h x k ≡ f k
put_other f h x k ne = elim (eqb_tells k h) [ inl w ↦ absurd (ne w.1) | inr w ↦ rw w.0 refl ]

pub put_twice : {A : Type 0} (f : ℕ → A) (h : ℕ) (x y : A) (k : ℕ) → put (put f h x) h y k ≡ put f h y k
put_twice f h x y k = elim (eqb_tells k h) [ inl w ↦ rw w.0 refl | inr w ↦ rw w.0 refl ]

put_swap : {A : Type 0} (f : ℕ → A) (h j : ℕ) (x y : A) (k : ℕ) → h ≢ j → put (put f j y) h x k ≡ put (put f h x) j y k
put_swap f h j x y k ne = elim (eqb_tells k h) [
  | inl w ↦ elim (eqb_tells k j) [ inl v ↦ absurd (ne (sym w.1 ∙ v.1)) | inr v ↦ rw (w.0, v.0) refl ]
  | inr w ↦ elim (eqb_tells k j) [ inl v ↦ rw (w.0, v.0) refl | inr v ↦ rw (w.0, v.0) refl ]
]

-- other bytes in the place of the block at the cut
pub in_place : (old bytes : List ℕ) (h : Heap) (s : Split Segment) (segments tail : List Segment) → BlockOf old h s →
    ((a : ℕ) → bytes_at first_place segments a ≡ bytes_at first_place (s.before ++ Used bytes ∷ tail) a) →
    ((a : ℕ) → bytes_at (place_after s.before + (4 + length bytes)) tail a ≡ bytes_at (place_after s.before +
    (4 + length old)) s.after a) →
    IsMoved h (record h { segments = segments }) (place_after s.before + 4) (place_after s.before + 4) bytes
in_place old bytes h s segments tail c same rest =
    let p = place_after s.before in
    record {
      free = put_same (heap_map h) (p + 4) None;
      moved = λ a.
          same a ∙ at_append first_place s.before (Used bytes ∷ tail) a ∙
          (elim (eqb_tells a (p + 4)) as (λ _. or_else (bytes_at first_place s.before a)
          (bytes_at p (Used bytes ∷ tail) a) ≡ put (heap_map h) (p + 4) (Some bytes) a) [
            | inl w ↦ rw w.0 (ap (λ o. or_else o (Some bytes)) (none_before first_place s.before a (let z = w.1 in
                omega arith)))
            | inr w ↦ rw w.0 (ap (or_else (bytes_at first_place s.before a)) (rest a) ∙ sym (around h s c.cut a ∙
                ap (λ g. or_else (bytes_at first_place s.before a) (bytes_at p (g ∷ s.after) a)) c.here ∙
                rw w.0 refl))
          ]) ∙ sym (put_twice (heap_map h) (p + 4) None (Some bytes) a);
    }

-- a block of the map is found
pub record Found (place : ℕ) (xs : List Segment) (a : ℕ) (b : List ℕ) : Type 0 where
  cut : Split Segment
  is : first_at size_of (is_block_at a) place xs ≡ Some cut
  whole : with_here cut cut.here ≡ xs
  here : cut.here ≡ Used b
  at_ : place + total size_of cut.before + 4 ≡ a

found_behind : (place : ℕ) (x : Segment) (xs : List Segment) (a : ℕ) (b : List ℕ) → is_block_at a place x ≡ false →
    Found (place + size_of x) xs a b → Found place (x ∷ xs) a b
found_behind place x xs a b e f = record {
  cut = behind x f.cut;
  is = rw e (ap (option_map (behind x)) f.is);
  whole = ap (λ ys. x ∷ ys) f.whole;
  here = f.here;
  at_ = let z = f.at_ in omega arith;
}

pub found : (place : ℕ) (xs : List Segment) (a : ℕ) (b : List ℕ) → bytes_at place xs a ≡ Some b → Found place xs a b
found place [] a b q = absurd (none_some None refl q)
found place (Hole n ∷ xs) a b q = found_behind place (Hole n) xs a b refl (found (place + n) xs a b q)
found place (Used c ∷ xs) a b q = elim (eqb_tells a (place + 4)) [
  | inl w ↦ record {
    cut = record { before = []; here = Used c; after = xs };
    is = rw w.0 refl;
    whole = refl;
    here = let z : Option.Some c ≡ Some b = rw w.0 at q in let y : c ≡ b = cc in ap Used y;
    at_ = let z = w.1 in omega arith;
  }
  | inr w ↦ found_behind place (Used c) xs a b w.0 (found (place + (4 + length c)) xs a b (rw w.0 at q))
]

-- a release by address
released_at : (h : Heap) (a : ℕ) (b : List ℕ) → heap_map h a ≡ Some b → IsReleased h (release_block a h) a
released_at h a b q k =
    let f = found first_place h.segments a b q in
    ap (λ o. heap_map (release_found o h) k) f.is ∙ cleared b h f.cut (record {
      cut = record { whole = f.whole };
      here = f.here;
    }) k ∙ ap (λ j. put (heap_map h) j None k) f.at_

-- a block placed elsewhere, and then released
moves : (old bytes : List ℕ) (h : Heap) (p : Placed) (s : Split Segment) → BlockOf old h s → IsClaimed h p bytes →
    IsMoved h (release_block (place_after s.before + 4) p.heap) (place_after s.before + 4) p.address bytes
moves old bytes h p s c w =
    let a0 = place_after s.before + 4 in
    let was = there old h s c in
    let ne : a0 ≢ p.address = λ e. none_some (heap_map h a0) (ap (heap_map h) e ∙ w.free) was in
    let back : p.address ≢ a0 = λ e. ne (sym e) in
    let still : heap_map p.heap a0 ≡ Some old = w.written a0 ∙ put_other (heap_map h) p.address (Some bytes) a0 ne ∙
    was in
    record {
      free = put_other (heap_map h) a0 None p.address back ∙ w.free;
      moved = λ a. released_at p.heap a0 old still a ∙ ap (λ (f : ℕ → Option (List ℕ)). put f a0 None a) (λ i k.
          w.written k i) ∙ put_swap (heap_map h) a0 p.address None (Some bytes) a ne;
    }

pub resizes : (w : Way) (old bytes : List ℕ) (h : Heap) (s : Split Segment) → BlockOf old h s →
    CanGo w old bytes h s →
    IsMoved h (resized_by w bytes s h).heap (place_after s.before + 4) (resized_by w bytes s h).address bytes
resizes Stays old bytes h s c g =
    let p = place_after s.before in
    in_place old bytes h s h.segments s.after c
    (λ a. ap (λ xs. bytes_at first_place xs a) (sym c.cut.whole ∙ ap (λ x. s.before ++ x ∷ s.after) (c.here ∙
    ap Used (sym g))))
    (λ a. ap (λ (b : List ℕ). bytes_at (p + (4 + length b)) s.after a) g)
resizes Shrinks old bytes h s c g =
    let p = place_after s.before in
    let same : size_of s.here ≡ 4 + length old = ap size_of c.here in
    let tail = Hole (size_of s.here - (4 + length bytes)) ∷ s.after in
    in_place old bytes h s (joined (s.before ++ Used bytes ∷ tail)) tail c
    (λ a. at_joined first_place (s.before ++ Used bytes ∷ tail) a)
    (λ a. ap (λ q. bytes_at q s.after a) (omega arith))
resizes (GrowsIntoHole size rest) old bytes h s c g =
    let p = place_after s.before in
    let same : size_of s.here ≡ 4 + length old = ap size_of c.here in
    let le : length bytes ≤ length old + size = g.1 in
    let left = (size_of s.here + size) - (4 + length bytes) in
    in_place old bytes h s (s.before ++ Used bytes ∷ with_hole left rest) (with_hole left rest) c (λ a. refl)
    (λ a. at_hole (p + (4 + length bytes)) left rest a ∙ ap (λ q. bytes_at q rest a) (omega arith) ∙
    ap (λ xs. bytes_at (p + (4 + length old)) xs a) (sym g.0))
resizes GrowsAtTop old bytes h s c g =
    in_place old bytes h s (s.before ++ Used bytes ∷ []) [] c (λ a. refl) (λ a.
    ap (λ xs. bytes_at (place_after s.before + (4 + length old)) xs a) (sym g))
resizes (MovesToHole hole) old bytes h s c g = moves old bytes h (placed_in bytes h (Some hole)) s c (in_hole bytes h
    hole g)
resizes MovesToTop old bytes h s c g = moves old bytes h (placed_in bytes h None) s c (on_top bytes h)
