-- What stands at a place, how much room there is, and where a heap ends.
use Rattle.rh_heap.proofs.Common.{◌≡◌, ℕ, ◌+◌, ◌-◌, ◌%◌, ◌<◌, ◌≤◌, Bool, true, false, max, List, [], ◌∷◌, ◌++◌, length, refl, sym, ap, ◌∙◌, arith, Some, Ok}
use Rattle.rh_heap.proofs.Common.{ok_or, ℤ, option_map, word, SameOutside, moved, total, Segment, Used, Hole, Heap, size_of, bytes_of, base, segment_at}
use Rattle.rh_heap.proofs.Common.{Spells, HeapRefusal, HasRoom-from_tidy, cases_lt, inl, inr, HasNone, FoundSegment, FoundBlock, HereIs, used_here, hole_here}
use Rattle.rh_heap.proofs.Common.{Spot}
use Rattle.rh_defs.specs.Heap.{block_size, hole_size, largest_hole, largest, free_bytes, empty_heap, extended}
use Rattle.rh_defs.proofs.HeapLists.{sum-append}
use Rattle.rh_defs.proofs.HeapStretch.{Stand-kept}
use Rattle.rh_heap.specs.Segments.{piece}
use Rattle.rh_heap.proofs.StretchLaws.{word_below}
use Rattle.rh_heap.specs.Inner.HolesPassed.{Passed}
use Rattle.rh_heap.proofs.ClaimLaws.{HoleTurn}

-- ---- sizes
pub size_answer : (at : ℕ) (h : Heap) (address : ℕ) (spot : Spot) (e : HeapRefusal) → FoundBlock at h address spot
    → Ok (spot.size - 4) ≡ ok_or (block_size address h) e
size_answer at h address spot e f =
    ap Ok (let s = f.size_is in let n : spot.size - 4 ≡ length f.bytes = omega arith in n)
    ∙ sym (ap (λ o. ok_or (option_map (λ s. length (bytes_of s.here)) o) e) f.found)

piece_of : (size : ℕ) (used : Bool) (here : Segment) (before after : List Segment) (place : ℕ) → HereIs size used here → place ≡ 16 + total size_of before
    → Some (record { place = place; size = size; used = used }) ≡ Some (piece (record { before = before; here = here; after = after }))
piece_of size true (Used bs) before after place (used_here _ e) p = ap (λ n. Some (record { place = n; size = size; used = true })) p
    ∙ ap (λ n. Some (record { place = 16 + total size_of before; size = n; used = true })) e
piece_of size false (Hole n) before after place (hole_here _ e) p = ap (λ n. Some (record { place = n; size = size; used = false })) p
    ∙ ap (λ n. Some (record { place = 16 + total size_of before; size = n; used = false })) e
piece_of size true (Hole n) before after place k p = elim k [ ]
piece_of size false (Used bs) before after place k p = elim k [ ]

pub segment_answer : (at : ℕ) (h : Heap) (target : ℕ) (spot : Spot) → FoundSegment at h target spot
    → Some (record { place = spot.place; size = spot.size; used = spot.used }) ≡ option_map piece (segment_at target h)
segment_answer at h target spot f =
    piece_of spot.size spot.used f.met.here (f.met.reached.front ++ f.met.reached.gap) f.met.after spot.place f.met.here_is f.met.reached.place_is
    ∙ sym (ap (option_map piece) f.found)

-- ---- room
largest_hole-append : (xs ys : List Segment) → largest_hole (xs ++ ys) ≡ max (largest_hole xs) (largest_hole ys)
largest_hole-append [] ys = omega arith
largest_hole-append (x ∷ xs) ys = let r = largest_hole-append xs ys in omega arith

largest_none : (ss : List Segment) → HasNone ss → largest_hole ss ≡ 0
largest_none [] n = refl
largest_none (Used bs ∷ ss) n = let r = largest_none ss n in omega arith
largest_none (Hole m ∷ ss) n = absurd n

sum_none : (ss : List Segment) → HasNone ss → total hole_size ss ≡ 0
sum_none [] n = refl
sum_none (Used bs ∷ ss) n = let r = sum_none ss n in omega arith
sum_none (Hole m ∷ ss) n = absurd n

holes_below : (ss : List Segment) → total hole_size ss ≤ total size_of ss
holes_below [] = omega arith
holes_below (Used bs ∷ ss) = let r = holes_below ss in omega arith
holes_below (Hole m ∷ ss) = let r = holes_below ss in omega arith

-- no hole has so many bytes
abbrev pub too_large : Heap → ℕ
too_large h = base h + 1

-- the sums of the holes that were passed
pub record Summed (at : ℕ) (h : Heap) (from largest total' : ℕ) : Type 0 where
  pub walk : Passed at h (too_large h) from
  pub largest_is : largest ≡ max (largest_hole walk.before) (h.end - base h)
  pub total_is : total' ≡ total hole_size walk.before + (h.end - base h)

pub sum_start : (b : List ℕ) (at : ℕ) (h : Heap) (top end low : ℕ) → Spells b at h → end ≡ word b (at + 12) → low ≡ word b (at + 8) → top ≡ end - low
    → Summed at h 4 top top
sum_start b at h top end low s e l t =
    let eb = s.base in
    let ee = s.last in
    record {
      walk = record { before = []; rest = h.segments; is = refl; link = refl; none = tt; inside = omega arith };
      largest_is = omega arith;
      total_is = omega arith;
    }

pub sum_fits : (at : ℕ) (h : Heap) (from largest total' : ℕ) → Summed at h from largest total' → base h ≤ h.end → total' ≤ h.end
sum_fits at h from largest total' w f =
    let e = w.total_is in
    omega (arith, holes_below w.walk.before, ap (total size_of) w.walk.is, sum-append size_of w.walk.before w.walk.rest)

pub sum_more : (b : List ℕ) (at : ℕ) (h : Heap) (from place largest total' size : ℕ) → (w : Summed at h from largest total')
    → HoleTurn b at h (too_large h) from place w.walk.before → size ≡ word b (at + (place + 4)) → size < too_large h
    → Summed at h place (max largest size) (total' + size)
sum_more b at h from place largest total' size w t e lt =
    let p = t.passed size e lt in
    let lw = w.largest_is in
    let tw = w.total_is in
    let front = w.walk.before ++ p.skipped in
    let l1 = ap largest_hole p.before_is ∙ largest_hole-append front (Hole size ∷ []) in
    let l2 = largest_hole-append w.walk.before p.skipped in
    let l3 = largest_none p.skipped p.none in
    let s1 = ap (total hole_size) p.before_is ∙ sum-append hole_size front (Hole size ∷ []) in
    let s2 = sum-append hole_size w.walk.before p.skipped in
    let s3 = sum_none p.skipped p.none in
    record { walk = p.walk; largest_is = omega arith; total_is = omega arith }

pub size_below : (b : List ℕ) (at : ℕ) (h : Heap) (from place size : ℕ) (old : List Segment) → HoleTurn b at h (too_large h) from place old
    → size ≡ word b (at + (place + 4)) → size < too_large h
size_below b at h from place size old t e = elim (cases_lt size (too_large h)) [
  | inl l ↦ l
  | inr l ↦ let f = t.found size e l in let i = f.inside in absurd (let z = f.fits in omega arith)
]

pub sums_done : (at : ℕ) (h : Heap) (from largest' total' : ℕ) (w : Summed at h from largest' total') → HasNone w.walk.rest
    → (largest' - 4 ≡ largest h) × (total' ≡ free_bytes h)
sums_done at h from largest' total' w n =
    let lw = w.largest_is in
    let tw = w.total_is in
    let l1 = ap largest_hole w.walk.is ∙ largest_hole-append w.walk.before w.walk.rest in
    let l2 = largest_none w.walk.rest n in
    let s1 = ap (total hole_size) w.walk.is ∙ sum-append hole_size w.walk.before w.walk.rest in
    let s2 = sum_none w.walk.rest n in
    (omega arith, omega arith)

-- ---- ends
pub init_spells : (b b1 b2 b3 c : List ℕ) (at end : ℕ) → 16 ≤ end → end % 8 ≡ 0 → at + end ≤ length b
    → SameOutside b b1 (at + 0) (at + 0 + 4) → word b1 (at + 0) ≡ 0x70616548 → SameOutside b1 b2 (at + 4) (at + 4 + 4) → word b2 (at + 4) ≡ 0
    → SameOutside b2 b3 (at + 8) (at + 8 + 4) → word b3 (at + 8) ≡ 16 → SameOutside b3 c (at + 12) (at + 12 + 4) → word c (at + 12) ≡ end
    → Spells c at (empty_heap end)
init_spells b b1 b2 b3 c at end least mult within o1 w1 o2 w2 o3 w3 o4 w4 = record {
  heap = record { tidy = tt; fits = least; multiple = mult };
  within = let l1 = o1.len in let l2 = o2.len in let l3 = o3.len in let l4 = o4.len in omega arith;
  special = word_below o4 at (omega arith) ∙ word_below o3 at (omega arith) ∙ word_below o2 at (omega arith) ∙ ap (word b1) (omega arith) ∙ w1;
  base = word_below o4 (at + 8) (omega arith) ∙ w3;
  last = w4;
  stand = word_below o4 (at + 4) (omega arith) ∙ word_below o3 (at + 4) (omega arith) ∙ w2;
}

pub extend_spells : (b c : List ℕ) (at : ℕ) (h : Heap) (delta : ℤ) (old end low : ℕ) → Spells b at h → old ≡ word b (at + 12) → end ≡ moved old delta
    → moved h.end delta % 8 ≡ 0 → at + moved h.end delta ≤ length b
    → low ≡ word b (at + 8) → low ≤ end → SameOutside b c (at + 12) (at + 12 + 4) → word c (at + 12) ≡ end → Spells c at (extended delta h)
extend_spells b c at h delta old end low s eo e mult within el fits o w =
    let es : end ≡ moved h.end delta = e ∙ ap (λ n. moved n delta) (eo ∙ s.last) in
    let eb = s.base in
    record {
      heap = record { tidy = s.heap.tidy; fits = omega arith; multiple = mult };
      within = let l = o.len in omega arith;
      special = word_below o at (omega arith) ∙ s.special;
      base = word_below o (at + 8) (omega arith) ∙ s.base;
      last = w ∙ es;
      stand = Stand-kept b c (at + 4) (at + 16) h.segments (HasRoom-from_tidy false h.segments s.heap.tidy) (word_below o (at + 4) (omega arith))
          (record { each = λ k lo hi. o.above k (omega arith) }) s.stand;
    }
