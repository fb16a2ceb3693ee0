-- What a heap's calls do to its shape, and that they look at no block's bytes.
use Rattle.rh_defs.proofs.Common.{◌≡◌, ℕ, zero, suc, ◌+◌, ◌-◌, Bool, true, false, cond, eqb, leb, ltb, List, [], ◌∷◌, ◌++◌, length, refl, sym, ap, subst, ◌∙◌}
use Rattle.rh_defs.proofs.Common.{arith, length-replicate, Option, Some, None, Ok, Err, option_map, with_part, Granted, ◌>>=◌, ◌>>◌, refuse_if, total, Split}
use Rattle.rh_defs.proofs.Common.{behind, first_at, zeros, pages_for, Segment, Used, Hole, Heap, Placed, size_of, bytes_of, with_hole, joined, hole_for}
use Rattle.rh_defs.proofs.Common.{is_hole_for, block_at, is_block_at, placed_block, placed_in, segment_size, block_room, shortage_in, need, raised}
use Rattle.rh_defs.proofs.Common.{claim_growing}
use Rattle.rh_defs.proofs.Common.{release_block, release_found, module_claim, module_need_pages, BadSize, NoRoom, length-put, poked}
use Rattle.rh_defs.specs.Heap.{block_size}
use Rattle.rh_defs.specs.Blocks.{blank, written_at, SameShape}
use Rattle.rh_defs.specs.Inner.BlankedBlocks.{blanked}

pub len0 : (n : ℕ) → length (zeros n) ≡ n
len0 n = length-replicate {A = ℕ} n 0

-- ---- lists of segments
pub total-blank : (ss : List Segment) → total size_of (blank ss) ≡ total size_of ss
total-blank [] = refl
total-blank (Used bs ∷ ss) = omega (arith, len0 (length bs), total-blank ss)
total-blank (Hole n ∷ ss) = omega (arith, total-blank ss)

pub blank-append : (xs ys : List Segment) → blank (xs ++ ys) ≡ blank xs ++ blank ys
blank-append [] ys = refl
blank-append (Used bs ∷ xs) ys = ap (λ l. Used (zeros (length bs)) ∷ l) (blank-append xs ys)
blank-append (Hole n ∷ xs) ys = ap (λ l. Hole n ∷ l) (blank-append xs ys)

pub blank-with_hole : (n : ℕ) (ss : List Segment) → blank (with_hole n ss) ≡ with_hole n (blank ss)
blank-with_hole zero ss = refl
blank-with_hole (suc n) [] = refl
blank-with_hole (suc n) (Used bs ∷ ss) = refl
blank-with_hole (suc n) (Hole m ∷ ss) = refl

pub blank-joined : (ss : List Segment) → blank (joined ss) ≡ joined (blank ss)
blank-joined [] = refl
blank-joined (Used bs ∷ ss) = ap (λ l. Used (zeros (length bs)) ∷ l) (blank-joined ss)
blank-joined (Hole n ∷ ss) = blank-with_hole n (joined ss) ∙ ap (with_hole n) (blank-joined ss)

pub blank-written : (a o : ℕ) (xs : List ℕ) (p : ℕ) (ss : List Segment) → blank (written_at a o xs p ss) ≡ blank ss
blank-written a o xs p [] = refl
blank-written a o xs p (Used bs ∷ ss) =
    elim (eqb a (p + 4)) as (λ t. blank (cond t (Used (with_part bs o xs) ∷ ss) (Used bs ∷ written_at a o xs (p + (4 + length bs)) ss)) ≡ blank
    (Used bs ∷ ss)) [
      | true ↦ ap (λ n. Used (zeros n) ∷ blank ss) (length-put bs o xs)
      | false ↦ ap (λ l. Used (zeros (length bs)) ∷ l) (blank-written a o xs (p + (4 + length bs)) ss)
    ]
blank-written a o xs p (Hole n ∷ ss) = ap (λ l. Hole n ∷ l) (blank-written a o xs (p + n) ss)

-- ---- one segment, and a cut
abbrev pub blank_one : Segment → Segment
blank_one (Used bs) = Used (zeros (length bs))
blank_one (Hole n) = Hole n

pub size-blank_one : (g : Segment) → size_of (blank_one g) ≡ size_of g
size-blank_one (Used bs) = omega (arith, len0 (length bs))
size-blank_one (Hole n) = refl

abbrev pub blank_cut : Split Segment → Split Segment
blank_cut s = record { before = blank s.before; here = blank_one s.here; after = blank s.after }

passed_on : (g : Segment) (o : Option (Split Segment))
    → option_map (behind (blank_one g)) (option_map blank_cut o) ≡ option_map blank_cut (option_map (behind g) o)
passed_on (Used bs) None = refl
passed_on (Used bs) (Some s) = refl
passed_on (Hole n) None = refl
passed_on (Hole n) (Some s) = refl

pub hole-blank : (t p : ℕ) (ss : List Segment) → first_at size_of (is_hole_for t) p (blank ss) ≡ option_map blank_cut (first_at size_of (is_hole_for t) p ss)
hole-blank t p [] = refl
hole-blank t p (Used bs ∷ ss) =
    ap (λ n. option_map (behind (Used (zeros (length bs)))) (first_at size_of (is_hole_for t) (p + (4 + n)) (blank ss))) (len0 (length bs))
    ∙ ap (option_map (behind (Used (zeros (length bs))))) (hole-blank t (p + (4 + length bs)) ss)
    ∙ passed_on (Used bs) (first_at size_of (is_hole_for t) (p + (4 + length bs)) ss)
hole-blank t p (Hole n ∷ ss) = go (leb t n) (hole-blank t (p + n) ss)
  where
    go : (b : Bool) → first_at size_of (is_hole_for t) (p + n) (blank ss) ≡ option_map blank_cut (first_at size_of (is_hole_for t) (p + n) ss)
        → cond b (Some (record { before = []; here = Hole n; after = blank ss }))
        (option_map (behind (Hole n)) (first_at size_of (is_hole_for t) (p + n) (blank ss)))
        ≡ option_map blank_cut (cond b (Some (record { before = []; here = Hole n; after = ss }))
        (option_map (behind (Hole n)) (first_at size_of (is_hole_for t) (p + n) ss)))
    go true e = refl
    go false e = ap (option_map (behind (Hole n))) e ∙ passed_on (Hole n) (first_at size_of (is_hole_for t) (p + n) ss)

pub block-blank : (a p : ℕ) (ss : List Segment) → first_at size_of (is_block_at a) p (blank ss) ≡ option_map blank_cut (first_at size_of (is_block_at a) p ss)
block-blank a p [] = refl
block-blank a p (Hole n ∷ ss) = ap (option_map (behind (Hole n))) (block-blank a (p + n) ss) ∙ passed_on (Hole n) (first_at size_of (is_block_at a) (p + n) ss)
block-blank a p (Used bs ∷ ss) =
    go (eqb a (p + 4)) (ap (λ n. first_at size_of (is_block_at a) (p + (4 + n)) (blank ss)) (len0 (length bs)) ∙ block-blank a (p + (4 + length bs)) ss)
  where
    go : (b : Bool) → first_at size_of (is_block_at a) (p + (4 + length (zeros (length bs)))) (blank ss) ≡ option_map blank_cut
        (first_at size_of (is_block_at a) (p + (4 + length bs)) ss)
        → cond b (Some (record { before = []; here = Used (zeros (length bs)); after = blank ss }))
        (option_map (behind (Used (zeros (length bs)))) (first_at size_of (is_block_at a) (p + (4 + length (zeros (length bs)))) (blank ss)))
        ≡ option_map blank_cut (cond b (Some (record { before = []; here = Used bs; after = ss }))
        (option_map (behind (Used bs)) (first_at size_of (is_block_at a) (p + (4 + length bs)) ss)))
    go true e = refl
    go false e = ap (option_map (behind (Used (zeros (length bs))))) e ∙ passed_on (Used bs) (first_at size_of (is_block_at a) (p + (4 + length bs)) ss)

-- ---- calls on a heap and on its blank
abbrev pub heap_with : List Segment → ℕ → Heap
heap_with ss end = record { segments = ss; end = end }

shortage-blank : (t : ℕ) (h : Heap) (o : Option (Split Segment)) → shortage_in t (blanked h) (option_map blank_cut o) ≡ shortage_in t h o
shortage-blank t h None = omega (arith, total-blank h.segments)
shortage-blank t h (Some s) = refl

pub need-blank : (n : ℕ) (h : Heap) → need n (blanked h) ≡ need n h
need-blank n h = ap (shortage_in (segment_size n) (blanked h)) (hole-blank (segment_size n) 16 h.segments)
    ∙ shortage-blank (segment_size n) h (hole_for (segment_size n) h.segments)

-- two blocks that are put alike
pub record PutAlike (p q : Placed) : Type 0 where
  pub address : p.address ≡ q.address
  pub shape : SameShape p.heap q.heap

pub blanked-blank : (ss : List Segment) → blank (blank ss) ≡ blank ss
blanked-blank [] = refl
blanked-blank (Used bs ∷ ss) = ap (λ n. Used (zeros n) ∷ blank (blank ss)) (len0 (length bs)) ∙ ap (λ l. Used (zeros (length bs)) ∷ l) (blanked-blank ss)
blanked-blank (Hole n ∷ ss) = ap (λ l. Hole n ∷ l) (blanked-blank ss)

in-blank : (m : ℕ) (h : Heap) (o : Option (Split Segment)) → PutAlike (placed_in (zeros m) (blanked h) (option_map blank_cut o)) (placed_in (zeros m) h o)
in-blank m h None = record {
  address = omega (arith, total-blank h.segments);
  shape = record {
    blank = blank-append (blank h.segments) (Used (zeros m) ∷ []) ∙ ap (λ l. l ++ blank (Used (zeros m) ∷ [])) (blanked-blank h.segments)
        ∙ sym (blank-append h.segments (Used (zeros m) ∷ []));
    end = refl;
  };
}
in-blank m h (Some s) =
    let g = Used (zeros m) in
    let r : ℕ = size_of s.here - (4 + length (zeros m)) in
    record {
      address = omega (arith, total-blank s.before);
      shape = record {
        blank = ap (λ n. blank (blank s.before ++ g ∷ with_hole (n - (4 + length (zeros m))) (blank s.after))) (size-blank_one s.here)
            ∙ blank-append (blank s.before) (g ∷ with_hole r (blank s.after))
            ∙ ap (λ l. l ++ blank (g ∷ with_hole r (blank s.after))) (blanked-blank s.before)
            ∙ ap (λ l. blank s.before ++ blank_one g ∷ l) (blank-with_hole r (blank s.after) ∙ ap (with_hole r) (blanked-blank s.after)
            ∙ sym (blank-with_hole r s.after)) ∙ sym (blank-append s.before (g ∷ with_hole r s.after));
        end = refl;
      };
    }

placed-blank : (m : ℕ) (h : Heap) → PutAlike (placed_block (zeros m) (blanked h)) (placed_block (zeros m) h)
placed-blank m h =
    let t : ℕ = 4 + length (zeros m) in
    subst (λ o. PutAlike (placed_in (zeros m) (blanked h) o) (placed_block (zeros m) h)) (sym (hole-blank t 16 h.segments))
    (in-blank m h (hole_for t h.segments))

pub same_heap : (h d : Heap) → SameShape h d → blanked h ≡ blanked d
same_heap h d s = ap (λ l. heap_with l h.end) s.blank ∙ ap (heap_with (blank d.segments)) s.end

pub shape-sym : {h d : Heap} → SameShape h d → SameShape d h
shape-sym s = record { blank = sym s.blank; end = sym s.end }

pub shape-both : {h d k : Heap} → SameShape h d → SameShape d k → SameShape h k
shape-both s t = record { blank = s.blank ∙ t.blank; end = s.end ∙ t.end }

pub need-alike : (n : ℕ) (h d : Heap) → SameShape h d → need n h ≡ need n d
need-alike n h d s = sym (need-blank n h) ∙ ap (need n) (same_heap h d s) ∙ need-blank n d

placed-alike : (m : ℕ) (h d : Heap) → SameShape h d → PutAlike (placed_block (zeros m) h) (placed_block (zeros m) d)
placed-alike m h d s =
    let x = placed-blank m h in
    let y : PutAlike (placed_block (zeros m) (blanked h)) (placed_block (zeros m) d) =
    subst (λ (k : Heap). PutAlike (placed_block (zeros m) k) (placed_block (zeros m) d)) (sym (same_heap h d s)) (placed-blank m d) in
    record { address = sym x.address ∙ y.address; shape = shape-both (shape-sym x.shape) y.shape }

pub growing-alike : (n : ℕ) (h d : Heap) → SameShape h d → PutAlike (claim_growing n h) (claim_growing n d)
growing-alike n h d s =
    subst (λ k. PutAlike (claim_growing n h) (placed_block (zeros (block_room n)) (raised k d))) (need-alike n h d s)
    (placed-alike (block_room n) (raised (need n h) h) (raised (need n h) d)
    (record { blank = s.blank; end = ap (λ e. (raised (need n h) (heap_with [] e)).end) s.end }))

-- ---- claims in the module area
abbrev pub Alike : Granted (Heap × ℕ) → Granted (Heap × ℕ) → Type 0
Alike (Ok x) (Ok y) = (x.1 ≡ y.1) × SameShape x.0 y.0
Alike (Err e) (Err f) = e ≡ f
Alike (Ok x) (Err f) = ⊥
Alike (Err e) (Ok y) = ⊥

claims : (t : Bool) (u : Bool) (p q : Placed) → PutAlike p q
    → Alike (refuse_if t BadSize >> (refuse_if u NoRoom >> Ok (p.heap, p.address))) (refuse_if t BadSize >> (refuse_if u NoRoom >> Ok (q.heap, q.address)))
unfolding ◌>>=◌ ◌>>◌ refuse_if
claims true u p q a = refl
claims false true p q a = refl
claims false false p q a = (a.address, a.shape)

pub module_claim-alike : (free n : ℕ) (h d : Heap) → SameShape h d → Alike (module_claim free n h) (module_claim free n d)
unfolding module_claim ◌>>◌
module_claim-alike free n h d s =
    subst (λ k. Alike (refuse_if (eqb n 0) BadSize >> (refuse_if (ltb free (pages_for (need n h))) NoRoom >> Ok
    ((claim_growing n h).heap, (claim_growing n h).address)))
    (refuse_if (eqb n 0) BadSize >> (refuse_if (ltb free (pages_for k)) NoRoom >> Ok ((claim_growing n d).heap, (claim_growing n d).address)))) (need-alike n
    h d s)
    (claims (eqb n 0) (ltb free (pages_for (need n h))) (claim_growing n h) (claim_growing n d) (growing-alike n h d s))

pub module_need_pages-alike : (n : ℕ) (h d : Heap) → SameShape h d → module_need_pages n h ≡ module_need_pages n d
unfolding module_need_pages ◌>>◌
module_need_pages-alike n h d s = ap (λ k. refuse_if (eqb n 0) BadSize >> Ok (pages_for k)) (need-alike n h d s)

-- ---- writes and releases
pub poked-shape : (a o : ℕ) (xs : List ℕ) (h : Heap) → SameShape (poked a o xs h) h
poked-shape a o xs h = record { blank = blank-written a o xs 16 h.segments; end = refl }

found-blank : (h : Heap) (o : Option (Split Segment)) → SameShape (release_found (option_map blank_cut o) (blanked h)) (release_found o h)
found-blank h None = record { blank = blanked-blank h.segments; end = refl }
found-blank h (Some s) = record {
  blank = ap (λ n. blank (joined (blank s.before ++ Hole n ∷ blank s.after))) (size-blank_one s.here)
      ∙ blank-joined (blank s.before ++ Hole (size_of s.here) ∷ blank s.after)
      ∙ ap joined (blank-append (blank s.before) (Hole (size_of s.here) ∷ blank s.after)
      ∙ ap (λ l. l ++ Hole (size_of s.here) ∷ blank (blank s.after)) (blanked-blank s.before)
      ∙ ap (λ l. blank s.before ++ Hole (size_of s.here) ∷ l) (blanked-blank s.after) ∙ sym (blank-append s.before (Hole (size_of s.here) ∷ s.after)))
      ∙ sym (blank-joined (s.before ++ Hole (size_of s.here) ∷ s.after));
  end = refl;
}

release-blank : (a : ℕ) (h : Heap) → SameShape (release_block a (blanked h)) (release_block a h)
release-blank a h = subst (λ o. SameShape (release_found o (blanked h)) (release_block a h)) (sym (block-blank a 16 h.segments)) (found-blank h (block_at a h))

pub release-alike : (a : ℕ) (h d : Heap) → SameShape h d → SameShape (release_block a h) (release_block a d)
release-alike a h d s =
    shape-both (shape-sym (release-blank a h)) (subst (λ (k : Heap). SameShape (release_block a k) (release_block a d)) (sym (same_heap h d s))
    (release-blank a d))

-- ---- sizes of blocks
abbrev bytes_at_cut : Option (Split Segment) → Option ℕ
bytes_at_cut o = option_map (λ (s : Split Segment). length (bytes_of s.here)) o

cut-size : (o : Option (Split Segment)) → bytes_at_cut (option_map blank_cut o) ≡ bytes_at_cut o
cut-size None = refl
cut-size (Some s) = ap Some (go s.here)
  where
    go : (g : Segment) → length (bytes_of (blank_one g)) ≡ length (bytes_of g)
    go (Used bs) = len0 (length bs)
    go (Hole n) = refl

size-blank : (a : ℕ) (h : Heap) → block_size a (blanked h) ≡ block_size a h
size-blank a h = ap bytes_at_cut (block-blank a 16 h.segments) ∙ cut-size (block_at a h)

pub block_size-alike : (a : ℕ) (h d : Heap) → SameShape h d → block_size a h ≡ block_size a d
block_size-alike a h d s = sym (size-blank a h) ∙ ap (block_size a) (same_heap h d s) ∙ size-blank a d
