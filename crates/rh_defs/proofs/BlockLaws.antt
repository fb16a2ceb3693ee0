-- Blocks by their addresses, after each edit of a heap.
use Rattle.rh_defs.proofs.Common.{◌≡◌, ℕ, zero, suc, ◌+◌, ◌-◌, ◌%◌, ◌<◌, ◌≤◌, ◌≢◌, inl, inr, Bool, true, false, cond, eqb, List, [], ◌∷◌, ◌++◌, length, refl}
use Rattle.rh_defs.proofs.Common.{sym, ap, subst, ◌∙◌, arith, append-nil, cases_eq, cases_lt, nat_tests, Option, Some, None, IfSome, option_map, total, Split}
use Rattle.rh_defs.proofs.Common.{first_at, Segment, Used, Hole, Heap, size_of, bytes_of, with_hole, joined, hole_for, is_hole_for, block_at, is_block_at}
use Rattle.rh_defs.proofs.Common.{placed_block, placed_in, release_block, release_found, part, with_part, IsTidy, Stand, Spells, HasRoom, length-put}
use Rattle.rh_defs.proofs.Common.{block_bytes, poked, PutsBlock}
use Rattle.rh_defs.specs.Pieces as pieces
use Rattle.rh_defs.proofs.HeapLists.{cond_true, cond_false, eqb_same, eqb_apart, IsCut, first_at-cuts, HasRoom-from_tidy}
use Rattle.std.proofs.lemmas.Grind.{same_number_lists}
use Rattle.rh_defs.specs.HeapImage.{IsImage}
use Rattle.rh_defs.proofs.BytesLaws.{length-part, get-part, put_below, put_above, put_inside, word-put_below, part-put_below}
use Rattle.rh_defs.proofs.HeapStretch.{Stand-kept}
use Rattle.rh_defs.specs.Blocks.{bytes_at, written_at, HasBlock, Frees, Pokes}

-- ---- where blocks lie
pub below : (a p : ℕ) (ss : List Segment) → a < p + 4 → bytes_at a p ss ≡ None
below a p [] h = refl
below a p (Used bs ∷ ss) h = cond_false (eqb a (p + 4)) _ _ (eqb_apart a (p + 4) (omega arith)) ∙ below a (p + (4 + length bs)) ss (omega arith)
below a p (Hole n ∷ ss) h = below a (p + n) ss (omega arith)

pub in_front : (a p : ℕ) (xs ys : List Segment) → a < p + total size_of xs + 4 → bytes_at a p (xs ++ ys) ≡ bytes_at a p xs
in_front a p [] ys h = below a p ys (omega arith)
in_front a p (Used bs ∷ xs) ys h = ap (cond (eqb a (p + 4)) (Some bs)) (in_front a (p + (4 + length bs)) xs ys (omega arith))
in_front a p (Hole n ∷ xs) ys h = in_front a (p + n) xs ys (omega arith)

pub behind : (a p q : ℕ) (xs ys : List Segment) → q ≡ p + total size_of xs → q + 4 ≤ a → bytes_at a p (xs ++ ys) ≡ bytes_at a q ys
behind a p q [] ys e h = ap (λ r. bytes_at a r ys) (omega arith)
behind a p q (Used bs ∷ xs) ys e h =
    cond_false (eqb a (p + 4)) _ _ (eqb_apart a (p + 4) (omega arith)) ∙ behind a (p + (4 + length bs)) q xs ys (omega arith) h
behind a p q (Hole n ∷ xs) ys e h = behind a (p + n) q xs ys (omega arith) h

pub beyond : (a p : ℕ) (ss : List Segment) → p + total size_of ss + 4 ≤ a → bytes_at a p ss ≡ None
beyond a p ss h = ap (bytes_at a p) (sym (append-nil ss)) ∙ behind a p (p + total size_of ss) ss [] refl h

-- ---- holes are no blocks
pub with_hole-blocks : (a p n : ℕ) (ss : List Segment) → bytes_at a p (with_hole n ss) ≡ bytes_at a (p + n) ss
with_hole-blocks a p zero ss = ap (λ r. bytes_at a r ss) (omega arith)
with_hole-blocks a p (suc n) [] = refl
with_hole-blocks a p (suc n) (Used bs ∷ ss) = refl
with_hole-blocks a p (suc n) (Hole m ∷ ss) = ap (λ r. bytes_at a r ss) (omega arith)

pub joined-blocks : (a p : ℕ) (ss : List Segment) → bytes_at a p (joined ss) ≡ bytes_at a p ss
joined-blocks a p [] = refl
joined-blocks a p (Used bs ∷ ss) = ap (cond (eqb a (p + 4)) (Some bs)) (joined-blocks a (p + (4 + length bs)) ss)
joined-blocks a p (Hole n ∷ ss) = with_hole-blocks a p n (joined ss) ∙ joined-blocks a (p + n) ss

-- ---- a block that is put there
in_hole : (bs : List ℕ) (xs ys : List Segment) (n r q : ℕ) → q ≡ 16 + total size_of xs → n ≡ 4 + length bs + r → (end end' : ℕ)
    → PutsBlock bs (record { segments = xs ++ Hole n ∷ ys; end = end }) (record { segments = xs ++ Used bs ∷ with_hole r ys; end = end' }) (q + 4)
in_hole bs xs ys n r q eq en end end' =
    let old : (a : ℕ) → q + 4 ≤ a → bytes_at a 16 (xs ++ Hole n ∷ ys) ≡ bytes_at a (q + n) ys = λ a h. behind a 16 q xs (Hole n ∷ ys) eq h in
    let new : (a : ℕ) → q + 4 ≤ a → bytes_at a 16 (xs ++ Used bs ∷ with_hole r ys) ≡ bytes_at a q (Used bs ∷ with_hole r ys) =
    λ a h. behind a 16 q xs (Used bs ∷ with_hole r ys) eq h in
    record {
      fresh = old (q + 4) (omega arith) ∙ below (q + 4) (q + n) ys (omega arith);
      here = new (q + 4) (omega arith) ∙ cond_true (eqb (q + 4) (q + 4)) _ _ (eqb_same (q + 4) (q + 4) refl);
      others = λ a ne. elim (cases_lt a (q + 4)) [
        | inl l ↦ in_front a 16 xs (Used bs ∷ with_hole r ys) (omega arith) ∙ sym (in_front a 16 xs (Hole n ∷ ys) (omega arith))
        | inr g ↦ new a g ∙ cond_false (eqb a (q + 4)) _ _ (eqb_apart a (q + 4) ne) ∙ with_hole-blocks a (q + (4 + length bs)) r ys
            ∙ ap (λ i. bytes_at a i ys) (omega arith) ∙ sym (old a g)
      ];
    }

at_top : (bs : List ℕ) (xs : List Segment) (q : ℕ) → q ≡ 16 + total size_of xs → (end end' : ℕ)
    → PutsBlock bs (record { segments = xs; end = end }) (record { segments = xs ++ Used bs ∷ []; end = end' }) (q + 4)
at_top bs xs q eq end end' =
    let new : (a : ℕ) → q + 4 ≤ a → bytes_at a 16 (xs ++ Used bs ∷ []) ≡ bytes_at a q (Used bs ∷ []) = λ a h. behind a 16 q xs (Used bs ∷ []) eq h in
    record {
      fresh = beyond (q + 4) 16 xs (omega arith);
      here = new (q + 4) (omega arith) ∙ cond_true (eqb (q + 4) (q + 4)) _ _ (eqb_same (q + 4) (q + 4) refl);
      others = λ a ne. elim (cases_lt a (q + 4)) [
        | inl l ↦ in_front a 16 xs (Used bs ∷ []) (omega arith)
        | inr g ↦ new a g ∙ cond_false (eqb a (q + 4)) _ _ (eqb_apart a (q + 4) ne) ∙ sym (beyond a 16 xs (omega arith))
      ];
    }

fits_hole : (bs : List ℕ) (h : Heap) (s : Split Segment) → (g : Segment) → s.here ≡ g → h.segments ≡ s.before ++ g ∷ s.after
    → is_hole_for (4 + length bs) (16 + total size_of s.before) g ≡ true → PutsBlock bs h (placed_in bs h (Some s)).heap (placed_in bs h (Some s)).address
fits_hole bs h s (Used cs) eg e t = absurd cc
fits_hole bs h s (Hole n) eg e t =
    let le : 4 + length bs ≤ n = grind (arith, nat_tests) in
    let p = in_hole bs s.before s.after n (n - (4 + length bs)) (16 + total size_of s.before) refl (omega arith) h.end h.end in
    let q : PutsBlock bs h (record { segments = s.before ++ Used bs ∷ with_hole (n - (4 + length bs)) s.after; end = h.end })
    (16 + total size_of s.before + 4) =
    subst (λ (l : List Segment). PutsBlock bs (record { segments = l; end = h.end })
    (record { segments = s.before ++ Used bs ∷ with_hole (n - (4 + length bs)) s.after; end = h.end }) (16 + total size_of s.before + 4)) (sym e) p in
    subst (λ (i : ℕ). PutsBlock bs h (record { segments = s.before ++ Used bs ∷ with_hole (i - (4 + length bs)) s.after; end = h.end })
    (16 + total size_of s.before + 4)) (sym (ap size_of eg)) q

-- a block that is placed is a new one, and no other changes
pub placed-puts : (bs : List ℕ) (h : Heap) → PutsBlock bs h (placed_block bs h).heap (placed_block bs h).address
placed-puts bs h = go (hole_for (4 + length bs) h.segments) (first_at-cuts size_of (is_hole_for (4 + length bs)) 16 h.segments)
  where
    go : (o : Option (Split Segment)) → IfSome o (IsCut size_of (is_hole_for (4 + length bs)) 16 h.segments)
        → PutsBlock bs h (placed_in bs h o).heap (placed_in bs h o).address
    go None c = at_top bs h.segments (16 + total size_of h.segments) refl h.end h.end
    go (Some s) c = fits_hole bs h s s.here refl c.whole c.passes

-- ---- a block that is released
-- the block at an address, by its bytes
abbrev pub bytes_here : Option (Split Segment) → Option (List ℕ)
bytes_here o = option_map (λ (s : Split Segment). bytes_of s.here) o

passed_on : (g : Segment) (o : Option (Split Segment)) → bytes_here (option_map (pieces.behind g) o) ≡ bytes_here o
passed_on g None = refl
passed_on g (Some s) = refl

first-bytes : (a p : ℕ) (ss : List Segment) → bytes_here (first_at size_of (is_block_at a) p ss) ≡ bytes_at a p ss
first-bytes a p [] = refl
first-bytes a p (Used bs ∷ ss) =
    go (eqb a (p + 4)) (passed_on (Used bs) (first_at size_of (is_block_at a) (p + (4 + length bs)) ss) ∙ first-bytes a (p + (4 + length bs)) ss)
  where
    go : (t : Bool) → bytes_here (option_map (pieces.behind (Used bs)) (first_at size_of (is_block_at a) (p + (4 + length bs)) ss)) ≡ bytes_at a
        (p + (4 + length bs)) ss
        → bytes_here (cond t (Some (record { before = []; here = Used bs; after = ss }))
        (option_map (pieces.behind (Used bs)) (first_at size_of (is_block_at a) (p + (4 + length bs)) ss)))
        ≡ cond t (Some bs) (bytes_at a (p + (4 + length bs)) ss)
    go true e = refl
    go false e = e
first-bytes a p (Hole n ∷ ss) = passed_on (Hole n) (first_at size_of (is_block_at a) (p + n) ss) ∙ first-bytes a (p + n) ss

pub block_at-bytes : (a : ℕ) (h : Heap) → bytes_here (block_at a h) ≡ block_bytes a h
block_at-bytes a h = first-bytes a 16 h.segments

-- the cut at a block with an address
pub block_cut : (x q : ℕ) (g : Segment) → is_block_at x q g ≡ true → (bs : List ℕ) × (g ≡ Used bs) × (x ≡ q + 4)
block_cut x q (Used bs) t = (bs, refl, elim (cases_eq x (q + 4)) [ inl e ↦ e | inr ne ↦ let f = eqb_apart x (q + 4) ne in absurd cc ])
block_cut x q (Hole n) t = absurd cc

opened_up : (x q end : ℕ) (xs ys ss : List Segment) (bs : List ℕ) → q ≡ 16 + total size_of xs → x ≡ q + 4 → ss ≡ xs ++ Used bs ∷ ys
    → Frees x (record { segments = ss; end = end }) (record { segments = joined (xs ++ Hole (4 + length bs) ∷ ys); end = end })
opened_up x q end xs ys ss bs eq ex es =
    let n : ℕ = 4 + length bs in
    let open_ : (a : ℕ) → bytes_at a 16 (joined (xs ++ Hole n ∷ ys)) ≡ bytes_at a 16 (xs ++ Hole n ∷ ys) = λ a. joined-blocks a 16 (xs ++ Hole n ∷ ys) in
    record {
      gone = open_ x ∙ behind x 16 q xs (Hole n ∷ ys) eq (omega arith) ∙ below x (q + n) ys (omega arith);
      others = λ a ne. open_ a ∙ elim (cases_lt a (q + 4)) [
        | inl l ↦ in_front a 16 xs (Hole n ∷ ys) (omega arith) ∙ sym (in_front a 16 xs (Used bs ∷ ys) (omega arith)) ∙ ap (bytes_at a 16) (sym es)
        | inr g ↦ behind a 16 q xs (Hole n ∷ ys) eq g ∙ sym (cond_false (eqb a (q + 4)) _ _ (eqb_apart a (q + 4) (omega arith)))
            ∙ sym (behind a 16 q xs (Used bs ∷ ys) eq g) ∙ ap (bytes_at a 16) (sym es)
      ];
    }

-- a block that is released is one no more, and no other changes
pub release-frees : (x : ℕ) (h : Heap) → Frees x h (release_block x h)
release-frees x h = go (block_at x h) (block_at-bytes x h) (first_at-cuts size_of (is_block_at x) 16 h.segments)
  where
    go : (o : Option (Split Segment)) → bytes_here o ≡ block_bytes x h → IfSome o (IsCut size_of (is_block_at x) 16 h.segments) → Frees x h (release_found o h)
    go None e c = record { gone = sym e; others = λ a ne. refl }
    go (Some s) e c =
        let b = block_cut x (16 + total size_of s.before) s.here c.passes in
        let z : size_of s.here ≡ 4 + length b.0 = ap size_of b.1 in
        let w : h.segments ≡ s.before ++ Used b.0 ∷ s.after = c.whole ∙ ap (λ g. s.before ++ g ∷ s.after) b.1 in
        subst (λ (n : ℕ). Frees x h (record { segments = joined (s.before ++ Hole n ∷ s.after); end = h.end })) (sym z)
        (opened_up x (16 + total size_of s.before) h.end s.before s.after h.segments b.0 refl b.2 w)

-- ---- bytes written into a block
pub range_at : (a p : ℕ) (ss : List Segment) (bs : List ℕ) → bytes_at a p ss ≡ Some bs → (p + 4 ≤ a) × (a + length bs ≤ p + total size_of ss)
range_at a p [] bs e = absurd cc
range_at a p (Used cs ∷ ss) bs e = elim (cases_eq a (p + 4)) [
  | inl q ↦ let same : Some cs ≡ Some bs =
      sym (cond_true (eqb a (p + 4)) _ _ (eqb_same a (p + 4) q)) ∙ e in let here : cs ≡ bs = cc in let l = ap length here in (omega arith, omega arith)
  | inr ne ↦ let r = range_at a (p + (4 + length cs)) ss bs (sym (cond_false (eqb a (p + 4)) _ _ (eqb_apart a (p + 4) ne)) ∙ e) in (omega arith, omega arith)
]
range_at a p (Hole n ∷ ss) bs e = let r = range_at a (p + n) ss bs e in (omega arith, omega arith)

pub total-written : (a o : ℕ) (xs : List ℕ) (p : ℕ) (ss : List Segment) → total size_of (written_at a o xs p ss) ≡ total size_of ss
total-written a o xs p [] = refl
total-written a o xs p (Used bs ∷ ss) = elim (eqb a (p + 4)) as (λ t. total size_of
    (cond t (Used (with_part bs o xs) ∷ ss) (Used bs ∷ written_at a o xs (p + (4 + length bs)) ss)) ≡ total size_of (Used bs ∷ ss)) [
      | true ↦ omega (arith, length-put bs o xs)
      | false ↦ omega (arith, total-written a o xs (p + (4 + length bs)) ss)
    ]
total-written a o xs p (Hole n ∷ ss) = omega (arith, total-written a o xs (p + n) ss)

written-here : (a o : ℕ) (xs : List ℕ) (p : ℕ) (ss : List Segment) (bs : List ℕ) → bytes_at a p ss ≡ Some bs
    → bytes_at a p (written_at a o xs p ss) ≡ Some (with_part bs o xs)
written-here a o xs p [] bs e = absurd cc
written-here a o xs p (Used cs ∷ ss) bs e = elim (cases_eq a (p + 4)) [
  | inl q ↦ let t = eqb_same a (p + 4) q in
      let same : Some cs ≡ Some bs = sym (cond_true (eqb a (p + 4)) _ _ t) ∙ e in
      ap (bytes_at a p) (cond_true (eqb a (p + 4)) _ _ t) ∙ cond_true (eqb a (p + 4)) _ _ t
      ∙ ap (λ (o' : Option (List ℕ)). option_map (λ l. with_part l o xs) o') same
  | inr ne ↦ let f = eqb_apart a (p + 4) ne in
      ap (bytes_at a p) (cond_false (eqb a (p + 4)) _ _ f) ∙ cond_false (eqb a (p + 4)) _ _ f
      ∙ written-here a o xs (p + (4 + length cs)) ss bs (sym (cond_false (eqb a (p + 4)) _ _ f) ∙ e)
]
written-here a o xs p (Hole n ∷ ss) bs e = written-here a o xs (p + n) ss bs e

pub written-other : (a b o : ℕ) (xs : List ℕ) (p : ℕ) (ss : List Segment) → b ≢ a → bytes_at b p (written_at a o xs p ss) ≡ bytes_at b p ss
written-other a b o xs p [] ne = refl
written-other a b o xs p (Used cs ∷ ss) ne = elim (cases_eq a (p + 4)) [
  | inl q ↦ let t = eqb_same a (p + 4) q in let f = eqb_apart b (p + 4) (omega arith) in
      ap (bytes_at b p) (cond_true (eqb a (p + 4)) _ _ t) ∙ cond_false (eqb b (p + 4)) _ _ f ∙ ap (λ n. bytes_at b (p + (4 + n)) ss) (length-put cs o xs)
      ∙ sym (cond_false (eqb b (p + 4)) _ _ f)
  | inr q ↦ let f = eqb_apart a (p + 4) q in
      ap (bytes_at b p) (cond_false (eqb a (p + 4)) _ _ f) ∙ ap (cond (eqb b (p + 4)) (Some cs)) (written-other a b o xs (p + (4 + length cs)) ss ne)
]
written-other a b o xs p (Hole n ∷ ss) ne = written-other a b o xs (p + n) ss ne

-- bytes that are written into a block change it alone
pub poked-pokes : (a o : ℕ) (xs : List ℕ) (h : Heap) (bs : List ℕ) → block_bytes a h ≡ Some bs → Pokes a (with_part bs o xs) h (poked a o xs h)
poked-pokes a o xs h bs e = record { here = written-here a o xs 16 h.segments bs e; others = λ b ne. written-other a b o xs 16 h.segments ne }

pub tidy-written : (f : Bool) (a o : ℕ) (xs : List ℕ) (p : ℕ) (ss : List Segment) → IsTidy f ss → IsTidy f (written_at a o xs p ss)
tidy-written false a o xs p [] t = t
tidy-written true a o xs p [] t = t
tidy-written false a o xs p (Used bs ∷ ss) t =
    elim (eqb a (p + 4)) as (λ b. IsTidy false (cond b (Used (with_part bs o xs) ∷ ss) (Used bs ∷ written_at a o xs (p + (4 + length bs)) ss))) [
      | true ↦ (ap (λ n. (4 + n) % 8) (length-put bs o xs) ∙ t.0, t.1)
      | false ↦ (t.0, tidy-written false a o xs (p + (4 + length bs)) ss t.1)
    ]
tidy-written true a o xs p (Used bs ∷ ss) t =
    elim (eqb a (p + 4)) as (λ b. IsTidy true (cond b (Used (with_part bs o xs) ∷ ss) (Used bs ∷ written_at a o xs (p + (4 + length bs)) ss))) [
      | true ↦ (ap (λ n. (4 + n) % 8) (length-put bs o xs) ∙ t.0, t.1)
      | false ↦ (t.0, tidy-written false a o xs (p + (4 + length bs)) ss t.1)
    ]
tidy-written false a o xs p (Hole n ∷ ss) t = (t.0, t.1, tidy-written true a o xs (p + n) ss t.2)
tidy-written true a o xs p (Hole n ∷ ss) t = absurd t

-- a part with bytes written into it
pub part-written : (b : List ℕ) (at n o : ℕ) (xs : List ℕ) → o + length xs ≤ n → at + n ≤ length b → part (with_part b (at + o) xs) at n ≡ with_part
    (part b at n) o xs
part-written b at n o xs f w =
    let l = length-part b at n in
    let m = length-part (with_part b (at + o) xs) at n in
    let k = length-put (part b at n) o xs in
    same_number_lists (part (with_part b (at + o) xs) at n) (with_part (part b at n) o xs) (omega arith)
    (λ i h. let i-below : i < n = omega arith in get-part (with_part b (at + o) xs) at n i i-below ∙ elim (cases_lt i o) [
      | inl u ↦ put_below b (at + o) xs (at + i) (omega arith) ∙ sym (put_below (part b at n) o xs i u ∙ get-part b at n i i-below)
      | inr u ↦ elim (cases_lt i (o + length xs)) [
        | inl v ↦ put_inside b (at + o) xs (at + i) (i - o) (omega arith) (omega arith) (omega arith)
            ∙ sym (put_inside (part b at n) o xs i (i - o) (omega arith) (omega arith) (omega arith))
        | inr v ↦ put_above b (at + o) xs (at + i) (omega arith) ∙ sym (put_above (part b at n) o xs i (omega arith) ∙ get-part b at n i i-below)
      ]
    ])

Stand-written : (b : List ℕ) (a o : ℕ) (xs : List ℕ) (f p : ℕ) (ss : List Segment) (bs : List ℕ) → HasRoom ss → bytes_at a p ss ≡ Some bs
    → o + length xs ≤ length bs → p + total size_of ss ≤ length b → f + 4 ≤ p → Stand b f p ss → Stand (with_part b (a + o) xs) f p (written_at a o xs p ss)
Stand-written b a o xs f p [] bs r e i w l s = absurd cc
Stand-written b a o xs f p (Used cs ∷ ss) bs r e i w l s = elim (cases_eq a (p + 4)) [
  | inl q ↦
      let t = eqb_same a (p + 4) q in
      let same : Some cs ≡ Some bs = sym (cond_true (eqb a (p + 4)) _ _ t) ∙ e in
      let here : cs ≡ bs = cc in
      let n = ap length here in
      let len = length-put cs o xs in
      subst (Stand (with_part b (a + o) xs) f p) (sym (cond_true (eqb a (p + 4)) _ _ t)) (
        word-put_below b (a + o) xs p (omega arith) ∙ s.0 ∙ ap (λ k. 4 + k) (sym len),
        ap (λ k. part (with_part b (a + o) xs) (p + 4) k) len ∙ ap (λ k. part (with_part b (k + o) xs) (p + 4) (length cs)) q
            ∙ part-written b (p + 4) (length cs) o xs (omega arith) (omega arith) ∙ ap (λ l'. with_part l' o xs) s.1,
        subst (λ k. Stand (with_part b (a + o) xs) f (p + (4 + k)) ss) (sym len)
            (Stand-kept b (with_part b (a + o) xs) f (p + (4 + length cs)) ss r (word-put_below b (a + o) xs f (omega arith))
            (record { each = λ k lo hi. put_above b (a + o) xs k (omega arith) }) s.2),
      )
  | inr ne ↦
      let t = eqb_apart a (p + 4) ne in
      let e' : bytes_at a (p + (4 + length cs)) ss ≡ Some bs = sym (cond_false (eqb a (p + 4)) _ _ t) ∙ e in
      let g = range_at a (p + (4 + length cs)) ss bs e' in
      subst (Stand (with_part b (a + o) xs) f p) (sym (cond_false (eqb a (p + 4)) _ _ t)) (
        word-put_below b (a + o) xs p (omega arith) ∙ s.0,
        part-put_below b (a + o) xs (p + 4) (length cs) (omega arith) ∙ s.1,
        Stand-written b a o xs f (p + (4 + length cs)) ss bs r e' i (omega arith) (omega arith) s.2,
      )
]
Stand-written b a o xs f p (Hole n ∷ ss) bs r e i w l s =
    let g = range_at a (p + n) ss bs e in
    let big = r.0 in (
      ap (λ k. f + k) (word-put_below b (a + o) xs f (omega arith)) ∙ s.0,
      word-put_below b (a + o) xs (p + 4) (omega arith) ∙ s.1,
      Stand-written b a o xs p (p + n) ss bs r.1 e i (omega arith) (omega arith) s.2,
    )

-- bytes written inside a block leave a heap that is spelled, with that block changed alone
pub Spells-written : (b : List ℕ) (h : Heap) (a o : ℕ) (xs bs : List ℕ) → Spells b 0 h → block_bytes a h ≡ Some bs → o + length xs ≤ length bs
    → Spells (with_part b (a + o) xs) 0 (poked a o xs h)
Spells-written b h a o xs bs s e i =
    let t = total-written a o xs 16 h.segments in
    let g = range_at a 16 h.segments bs e in
    let fits = s.heap.fits in
    let w = s.within in
    record {
      heap = record { tidy = tidy-written false a o xs 16 h.segments s.heap.tidy; fits = omega arith; multiple = s.heap.multiple };
      within = omega (arith, length-put b (a + o) xs);
      special = word-put_below b (a + o) xs 0 (omega arith) ∙ s.special;
      base = word-put_below b (a + o) xs 8 (omega arith) ∙ s.base ∙ ap (λ n. 16 + n) (sym t);
      last = word-put_below b (a + o) xs 12 (omega arith) ∙ s.last;
      stand = Stand-written b a o xs 4 16 h.segments bs (HasRoom-from_tidy false h.segments s.heap.tidy) e i (omega arith) (omega arith) s.stand;
    }

pub IsImage-written : (b : List ℕ) (h : Heap) (a o : ℕ) (xs bs : List ℕ) → IsImage b h → block_bytes a h ≡ Some bs → o + length xs ≤ length bs
    → IsImage (with_part b (a + o) xs) (poked a o xs h)
IsImage-written b h a o xs bs s e i = record { whole = length-put b (a + o) xs ∙ s.whole; spells = Spells-written b h a o xs bs s.spells e i }

pub has-poked : (a n o : ℕ) (xs : List ℕ) (h : Heap) → HasBlock a n h → HasBlock a n (poked a o xs h)
has-poked a n o xs h b =
    record {
      bytes = with_part b.bytes o xs;
      found = (poked-pokes a o xs h b.bytes b.found).here;
      room = (let r = b.room in omega (arith, length-put b.bytes o xs));
    }

pub has-less : (a n k : ℕ) (h : Heap) → k ≤ n → HasBlock a n h → HasBlock a k h
has-less a n k h l b = record { bytes = b.bytes; found = b.found; room = (let r = b.room in omega arith) }

pub poked-other : (a b o : ℕ) (xs : List ℕ) (h : Heap) → b ≢ a → block_bytes b (poked a o xs h) ≡ block_bytes b h
poked-other a b o xs h ne = written-other a b o xs 16 h.segments ne

pub block-above : (a : ℕ) (h : Heap) (bs : List ℕ) → block_bytes a h ≡ Some bs → 20 ≤ a
block-above a h bs e = let r = range_at a 16 h.segments bs e in r.0
