-- What a resize does to a heap's shape and to its blocks.
use Rattle.rh_defs.proofs.Common.{◌≡◌, ◌≢◌, ℕ, ◌+◌, ◌-◌, ◌<◌, ◌≤◌, inl, inr, Bool, true, false, cond, eqb, leb, ltb, List, [], ◌∷◌, ◌++◌, length, append-nil}
use Rattle.rh_defs.proofs.Common.{refl, sym, ap, subst, ◌∙◌, arith, cases_lt, nat_tests, eqb_tells, Option, Some, None, IfSome, option_map, block_bytes}
use Rattle.rh_defs.proofs.Common.{PutsBlock}
use Rattle.rh_defs.proofs.Common.{Split, total, zeros, Segment, Used, Hole, Heap, Placed, Way, Stays, Shrinks, GrowsIntoHole, GrowsAtTop, MovesToHole}
use Rattle.rh_defs.proofs.Common.{MovesToTop, size_of, bytes_of, place_after, with_hole, joined, placed_block, placed_in, hole_for, is_block_at, block_at}
use Rattle.rh_defs.proofs.Common.{segment_size, block_room, raised, release_block, release_found, fitted, way_to, way_to_grow, way_beyond, end_for, resize_need}
use Rattle.rh_defs.proofs.Common.{resized_by, resize_growing}
use Rattle.std.proofs.lemmas.List.{take_all}
use Rattle.rh_defs.specs.Blocks.{blank, bytes_at, SameShape}
use Rattle.rh_defs.specs.Inner.BlankedBlocks.{blanked}
use Rattle.rh_defs.proofs.BlockLaws.{in_front, behind, with_hole-blocks, joined-blocks, placed-puts, release-frees, block_cut}
use Rattle.rh_defs.proofs.HeapLists.{IsCut, first_at-cuts, cond_true, cond_false, eqb_same, eqb_apart}
use Rattle.rh_defs.proofs.ShapeLaws.{PutAlike, blank_cut, blank_one, blank-append, blank-joined, blank-with_hole, block-blank, heap_with, hole-blank, len0}
use Rattle.rh_defs.proofs.ShapeLaws.{same_heap, size-blank_one, total-blank}
use Rattle.rh_defs.proofs.SlotRooms.{length-fitted}

-- ---- the way to another size looks at no bytes
abbrev blank_way : Way → Way
blank_way Stays = Stays
blank_way Shrinks = Shrinks
blank_way (GrowsIntoHole n rest) = GrowsIntoHole n (blank rest)
blank_way GrowsAtTop = GrowsAtTop
blank_way (MovesToHole s) = MovesToHole (blank_cut s)
blank_way MovesToTop = MovesToTop

beyond-blank : (after : List Segment) (o : Option (Split Segment)) → way_beyond (blank after) (option_map blank_cut o) ≡ blank_way (way_beyond after o)
beyond-blank after (Some hole) = refl
beyond-blank [] None = refl
beyond-blank (Used bs ∷ after) None = refl
beyond-blank (Hole n ∷ after) None = refl

module _ (t : ℕ) (s : Split Segment) (h : Heap) where
  to_hole : (after : List Segment) → way_beyond (blank after) (hole_for t (blank h.segments)) ≡ blank_way (way_beyond after (hole_for t h.segments))
  to_hole after = ap (way_beyond (blank after)) (hole-blank t 16 h.segments) ∙ beyond-blank after (hole_for t h.segments)

  grow-blank : (after : List Segment) → way_to_grow t (blank_cut s) (blank after) (blanked h) ≡ blank_way (way_to_grow t s after h)
  grow-blank [] =
      ap (λ n. cond (leb (16 + n + t) h.end) GrowsAtTop (way_beyond [] (hole_for t (blank h.segments)))) (total-blank s.before)
      ∙ go (leb (place_after s.before + t) h.end)
    where
      go : (b : Bool) → cond b GrowsAtTop (way_beyond [] (hole_for t (blank h.segments))) ≡ blank_way
          (cond b GrowsAtTop (way_beyond [] (hole_for t h.segments)))
      go true = refl
      go false = to_hole []
  grow-blank (Used bs ∷ after) = to_hole (Used bs ∷ after)
  grow-blank (Hole n ∷ after) =
      ap (λ k. cond (leb t (k + n)) (GrowsIntoHole n (blank after)) (way_beyond (Hole n ∷ blank after) (hole_for t (blank h.segments)))) (size-blank_one s.here)
      ∙ go (leb t (size_of s.here + n))
    where
      go : (b : Bool) → cond b (GrowsIntoHole n (blank after)) (way_beyond (Hole n ∷ blank after) (hole_for t (blank h.segments)))
          ≡ blank_way (cond b (GrowsIntoHole n after) (way_beyond (Hole n ∷ after) (hole_for t h.segments)))
      go true = refl
      go false = to_hole (Hole n ∷ after)

  way-blank : way_to t (blank_cut s) (blanked h) ≡ blank_way (way_to t s h)
  way-blank =
      ap (λ n. cond (eqb t n) Stays (cond (ltb t n) Shrinks (way_to_grow t (blank_cut s) (blank s.after) (blanked h)))) (size-blank_one s.here)
      ∙ ap (λ w. cond (eqb t (size_of s.here)) Stays (cond (ltb t (size_of s.here)) Shrinks w)) (grow-blank s.after)
      ∙ go (eqb t (size_of s.here)) (ltb t (size_of s.here)) (way_to_grow t s s.after h)
    where
      go : (a b : Bool) (w : Way) → cond a Stays (cond b Shrinks (blank_way w)) ≡ blank_way (cond a Stays (cond b Shrinks w))
      go true b w = refl
      go false true w = refl
      go false false w = refl

  end-blank : (w : Way) → end_for (blank_way w) t (blank_cut s) (blanked h) ≡ end_for w t s h
  end-blank Stays = refl
  end-blank Shrinks = refl
  end-blank (GrowsIntoHole n rest) = refl
  end-blank GrowsAtTop = omega (arith, total-blank s.before)
  end-blank (MovesToHole hole) = refl
  end-blank MovesToTop = omega (arith, total-blank h.segments)

need-blank : (n : ℕ) (s : Split Segment) (h : Heap) → resize_need n (blank_cut s) (blanked h) ≡ resize_need n s h
need-blank n s h =
    let t = segment_size n in
    ap (λ w. end_for w t (blank_cut s) (blanked h) - h.end) (way-blank t s h) ∙ ap (λ x. x - h.end) (end-blank t s h (way_to t s h))

-- ---- nor does the resize, but for those that it moves
placed-blank : (bytes : List ℕ) (h : Heap) (o : Option (Split Segment))
    → ((placed_in (zeros (length bytes)) (blanked h) (option_map blank_cut o)).heap ≡ blanked (placed_in bytes h o).heap)
    × ((placed_in (zeros (length bytes)) (blanked h) (option_map blank_cut o)).address ≡ (placed_in bytes h o).address)
placed-blank bytes h None = (ap (λ l. heap_with l h.end) (sym (blank-append h.segments (Used bytes ∷ []))), omega (arith, total-blank h.segments))
placed-blank bytes h (Some s) =
    let z = zeros (length bytes) in
    let r : ℕ = size_of s.here - (4 + length bytes) in
    let rest : size_of (blank_one s.here) - (4 + length z) ≡ r = omega (arith, size-blank_one s.here, len0 (length bytes)) in (
      ap (λ l. heap_with l h.end)
          (ap (λ m. blank s.before ++ Used z ∷ with_hole m (blank s.after)) rest
          ∙ ap (λ l. blank s.before ++ Used z ∷ l) (sym (blank-with_hole r s.after))
          ∙ sym (blank-append s.before (Used bytes ∷ with_hole r s.after))),
      omega (arith, total-blank s.before),
    )

found-blanked : (h : Heap) (o : Option (Split Segment)) → release_found (option_map blank_cut o) (blanked h) ≡ blanked (release_found o h)
found-blanked h None = refl
found-blanked h (Some s) =
    ap (λ l. heap_with l h.end)
    (ap (λ n. joined (blank s.before ++ Hole n ∷ blank s.after)) (size-blank_one s.here)
    ∙ ap joined (sym (blank-append s.before (Hole (size_of s.here) ∷ s.after)))
    ∙ sym (blank-joined (s.before ++ Hole (size_of s.here) ∷ s.after)))

release-blanked : (a : ℕ) (h : Heap) → release_block a (blanked h) ≡ blanked (release_block a h)
release-blanked a h = ap (λ o. release_found o (blanked h)) (block-blank a 16 h.segments) ∙ found-blanked h (block_at a h)

-- a block that moves to a place
moved-blank : (bytes : List ℕ) (before : List Segment) (h : Heap) (o : Option (Split Segment))
    → release_block (place_after (blank before) + 4) (placed_in (zeros (length bytes)) (blanked h) (option_map blank_cut o)).heap ≡ blanked
    (release_block (place_after before + 4) (placed_in bytes h o).heap)
moved-blank bytes before h o =
    ap (λ x. release_block (16 + x + 4) (placed_in (zeros (length bytes)) (blanked h) (option_map blank_cut o)).heap) (total-blank before)
    ∙ ap (release_block (place_after before + 4)) (placed-blank bytes h o).0
    ∙ release-blanked (place_after before + 4) (placed_in bytes h o).heap

-- a block's place and the heap, once the block has another size
abbrev IsBlanked : Placed → Placed → Type 0
IsBlanked p q = (p.heap ≡ blanked q.heap) × (p.address ≡ q.address)

by-blank : (bytes : List ℕ) (s : Split Segment) (h : Heap) (w : Way)
    → IsBlanked (resized_by (blank_way w) (zeros (length bytes)) (blank_cut s) (blanked h)) (resized_by w bytes s h)
by-blank bytes s h Stays = (refl, omega (arith, total-blank s.before))
by-blank bytes s h Shrinks =
    let z = zeros (length bytes) in
    let r : ℕ = size_of s.here - (4 + length bytes) in
    let rest : size_of (blank_one s.here) - (4 + length z) ≡ r = omega (arith, size-blank_one s.here, len0 (length bytes)) in (
      ap (λ l. heap_with l h.end)
          (ap (λ m. joined (blank s.before ++ Used z ∷ Hole m ∷ blank s.after)) rest
          ∙ ap joined (sym (blank-append s.before (Used bytes ∷ Hole r ∷ s.after)))
          ∙ sym (blank-joined (s.before ++ Used bytes ∷ Hole r ∷ s.after))),
      omega (arith, total-blank s.before),
    )
by-blank bytes s h (GrowsIntoHole n after) =
    let z = zeros (length bytes) in
    let r : ℕ = (size_of s.here + n) - (4 + length bytes) in
    let rest : (size_of (blank_one s.here) + n) - (4 + length z) ≡ r = omega (arith, size-blank_one s.here, len0 (length bytes)) in (
      ap (λ l. heap_with l h.end)
          (ap (λ m. blank s.before ++ Used z ∷ with_hole m (blank after)) rest
          ∙ ap (λ l. blank s.before ++ Used z ∷ l) (sym (blank-with_hole r after))
          ∙ sym (blank-append s.before (Used bytes ∷ with_hole r after))),
      omega (arith, total-blank s.before),
    )
by-blank bytes s h GrowsAtTop = (ap (λ l. heap_with l h.end) (sym (blank-append s.before (Used bytes ∷ []))), omega (arith, total-blank s.before))
by-blank bytes s h (MovesToHole hole) = (moved-blank bytes s.before h (Some hole), (placed-blank bytes h (Some hole)).1)
by-blank bytes s h MovesToTop = (moved-blank bytes s.before h None, (placed-blank bytes h None).1)

-- the heaps have one shape, and the cuts are at one place with the same bytes
pub record CutAlike (h d : Heap) (s c : Split Segment) : Type 0 where
  pub shape : SameShape h d
  pub cut : blank_cut s ≡ blank_cut c
  pub bytes : bytes_of s.here ≡ bytes_of c.here

pub resize_need-alike : (n : ℕ) (h d : Heap) (s c : Split Segment) → CutAlike h d s c → resize_need n s h ≡ resize_need n c d
resize_need-alike n h d s c a =
    sym (need-blank n s h) ∙ ap (λ x. resize_need n x (blanked h)) a.cut ∙ ap (resize_need n (blank_cut c)) (same_heap h d a.shape) ∙ need-blank n c d

shape-from_blanked : (h d : Heap) → blanked h ≡ blanked d → SameShape h d
shape-from_blanked h d e = record { blank = ap (λ (k : Heap). k.segments) e; end = ap (λ (k : Heap). k.end) e }

-- so blocks are resized alike
pub resize_growing-alike : (n : ℕ) (h d : Heap) (s c : Split Segment) → CutAlike h d s c → PutAlike (resize_growing n s h) (resize_growing n c d)
resize_growing-alike n h d s c a =
    let t = segment_size n in
    let bytes = fitted (block_room n) (bytes_of s.here) in
    let other = fitted (block_room n) (bytes_of c.here) in
    let long = raised (resize_need n s h) h in
    let longer = raised (resize_need n c d) d in
    let alike : blanked long ≡ blanked longer =
    ap (λ k. heap_with k.segments (raised (resize_need n s h) k).end) (same_heap h d a.shape)
    ∙ ap (λ m. heap_with (blank d.segments) (raised m d).end) (resize_need-alike n h d s c a) in
    let both : resized_by (blank_way (way_to t s h)) (zeros (length bytes)) (blank_cut s) (blanked long) ≡ resized_by (blank_way (way_to t c d))
    (zeros (length other)) (blank_cut c) (blanked longer) =
    ap (λ w. resized_by w (zeros (length bytes)) (blank_cut s) (blanked long)) (sym (way-blank t s h))
    ∙ ap (λ x. resized_by (way_to t x (blanked h)) (zeros (length bytes)) x (blanked long)) a.cut
    ∙ ap (λ k. resized_by (way_to t (blank_cut c) k) (zeros (length bytes)) (blank_cut c) (blanked long)) (same_heap h d a.shape)
    ∙ ap (λ l. resized_by (way_to t (blank_cut c) (blanked d)) (zeros (length (fitted (block_room n) l))) (blank_cut c) (blanked long)) a.bytes
    ∙ ap (resized_by (way_to t (blank_cut c) (blanked d)) (zeros (length other)) (blank_cut c)) alike
    ∙ ap (λ w. resized_by w (zeros (length other)) (blank_cut c) (blanked longer)) (way-blank t c d) in
    let x = by-blank bytes s long (way_to t s h) in
    let y = by-blank other c longer (way_to t c d) in
    record {
      address = sym x.1 ∙ ap (λ (p : Placed). p.address) both ∙ y.1;
      shape = shape-from_blanked (resize_growing n s h).heap (resize_growing n c d).heap (sym x.0 ∙ ap (λ (p : Placed). p.heap) both ∙ y.0);
    }

-- ---- blocks
-- the block at one address gets other bytes at another, which may be the same, and no other changes
pub record Moves (a : ℕ) (bytes : List ℕ) (h k : Heap) (address : ℕ) : Type 0 where
  pub here : block_bytes address k ≡ Some bytes
  pub others : (b : ℕ) → b ≢ a → b ≢ address → block_bytes b k ≡ block_bytes b h
  pub gone : a ≢ address → block_bytes a k ≡ None
  pub fresh : a ≢ address → block_bytes address h ≡ None

-- a block gets other bytes where it lies
in_place : (xs ys zs : List Segment) (old new : List ℕ) (q end end' : ℕ) → q ≡ 16 + total size_of xs
    → ((b : ℕ) → bytes_at b (q + (4 + length new)) zs ≡ bytes_at b (q + (4 + length old)) ys)
    → Moves (q + 4) new (record { segments = xs ++ Used old ∷ ys; end = end }) (record { segments = xs ++ Used new ∷ zs; end = end' }) (q + 4)
in_place xs ys zs old new q end end' e f = record {
  here = behind (q + 4) 16 q xs (Used new ∷ zs) e (omega arith) ∙ cond_true (eqb (q + 4) (q + 4)) _ _ (eqb_same (q + 4) (q + 4) refl);
  others = λ b ne same. elim (cases_lt b (q + 4)) [
    | inl l ↦ in_front b 16 xs (Used new ∷ zs) (omega arith) ∙ sym (in_front b 16 xs (Used old ∷ ys) (omega arith))
    | inr g ↦ behind b 16 q xs (Used new ∷ zs) e g ∙ cond_false (eqb b (q + 4)) _ _ (eqb_apart b (q + 4) ne) ∙ f b
        ∙ sym (cond_false (eqb b (q + 4)) _ _ (eqb_apart b (q + 4) ne)) ∙ sym (behind b 16 q xs (Used old ∷ ys) e g)
  ];
  gone = λ ne. absurd (ne refl);
  fresh = λ ne. absurd (ne refl);
}

-- a block that was put elsewhere, and is released where it lay
elsewhere : (a : ℕ) (old bytes : List ℕ) (h k : Heap) (address : ℕ) → block_bytes a h ≡ Some old → PutsBlock bytes h k address
    → Moves a bytes h (release_block a k) address
elsewhere a old bytes h k address e p =
    let w = release-frees a k in
    let apart : address ≢ a = λ z. let bad : Some old ≡ None = sym e ∙ ap (λ b. block_bytes b h) (sym z) ∙ p.fresh in absurd cc in
    record {
      here = w.others address apart ∙ p.here;
      others = λ b ne new. w.others b ne ∙ p.others b new;
      gone = λ ne. w.gone;
      fresh = λ ne. p.fresh;
    }

-- what a way rests on
abbrev WayIs : ℕ → Split Segment → Heap → Way → Type 0
WayIs t s h Stays = t ≡ size_of s.here
WayIs t s h Shrinks = t ≤ size_of s.here
WayIs t s h (GrowsIntoHole n rest) = (t ≤ size_of s.here + n) × (s.after ≡ Hole n ∷ rest)
WayIs t s h GrowsAtTop = s.after ≡ []
WayIs t s h (MovesToHole hole) = hole_for t h.segments ≡ Some hole
WayIs t s h MovesToTop = hole_for t h.segments ≡ None

module _ (t : ℕ) (s : Split Segment) (h : Heap) where
  beyond-is : (after : List Segment) → s.after ≡ after → (o : Option (Split Segment)) → hole_for t h.segments ≡ o → WayIs t s h (way_beyond after o)
  beyond-is after e (Some hole) f = f
  beyond-is [] e None f = e
  beyond-is (g ∷ after) e None f = f

  grow-is : (after : List Segment) → s.after ≡ after → WayIs t s h (way_to_grow t s after h)
  grow-is [] e = elim (leb (place_after s.before + t) h.end) as (λ b. WayIs t s h (cond b GrowsAtTop (way_beyond [] (hole_for t h.segments)))) [
    | true ↦ e
    | false ↦ beyond-is [] e (hole_for t h.segments) refl
  ]
  grow-is (Used bs ∷ after) e = beyond-is (Used bs ∷ after) e (hole_for t h.segments) refl
  grow-is (Hole n ∷ after) e = go (leb t (size_of s.here + n)) refl
    where
      go : (b : Bool) → leb t (size_of s.here + n) ≡ b → WayIs t s h (cond b (GrowsIntoHole n after) (way_beyond (Hole n ∷ after) (hole_for t h.segments)))
      go true l = (grind (arith, nat_tests), e)
      go false l = beyond-is (Hole n ∷ after) e (hole_for t h.segments) refl

  way-is : WayIs t s h (way_to t s h)
  way-is = go (eqb t (size_of s.here)) (ltb t (size_of s.here)) refl refl
    where
      go : (same less : Bool) → eqb t (size_of s.here) ≡ same → ltb t (size_of s.here) ≡ less
          → WayIs t s h (cond same Stays (cond less Shrinks (way_to_grow t s s.after h)))
      go true less e f = elim (eqb_tells t (size_of s.here)) [ inl u ↦ u.1 | inr v ↦ absurd (let z = v.0 in cc) ]
      go false true e f = let l : t < size_of s.here = grind (arith, nat_tests) in omega arith
      go false false e f = grow-is s.after refl

fitted-same : (n : ℕ) (bs : List ℕ) → n ≡ length bs → fitted n bs ≡ bs
fitted-same n bs e = ap (λ l. l ++ zeros (n - length bs)) (take_all n bs (omega arith))
    ∙ ap (λ m. bs ++ zeros m) (let z : n - length bs ≡ 0 = omega arith in z) ∙ append-nil bs

-- the block at a cut gets bytes of another length
module _ (s : Split Segment) (h k : Heap) (old bytes : List ℕ) (used : s.here ≡ Used old) (whole : h.segments ≡ s.before ++ Used old ∷ s.after)
    (same : k.segments ≡ h.segments) where
  abbrev at_cut : ℕ
  at_cut = place_after s.before + 4

  size-is : size_of s.here ≡ 4 + length old
  size-is = ap size_of used

  there : block_bytes at_cut h ≡ Some old
  there = ap (bytes_at at_cut 16) whole ∙ behind at_cut 16 (place_after s.before) s.before (Used old ∷ s.after) refl (omega arith)
      ∙ cond_true (eqb at_cut at_cut) _ _ (eqb_same at_cut at_cut refl)

  stretched : (zs : List Segment)
      → ((b : ℕ) → bytes_at b (place_after s.before + (4 + length bytes)) zs ≡ bytes_at b (place_after s.before + (4 + length old)) s.after)
      → Moves at_cut bytes h (record { segments = s.before ++ Used bytes ∷ zs; end = k.end }) at_cut
  stretched zs f = subst (λ l. Moves at_cut bytes (record { segments = l; end = h.end }) (record { segments = s.before ++ Used bytes ∷ zs; end = k.end })
      at_cut) (sym whole)
      (in_place s.before s.after zs old bytes (place_after s.before) h.end k.end refl f)

  -- holes that are joined have the same blocks
  after-joined : (l : List Segment) (e : ℕ) → Moves at_cut bytes h (record { segments = l; end = e }) at_cut
      → Moves at_cut bytes h (record { segments = joined l; end = e }) at_cut
  after-joined l e m = record {
    here = joined-blocks at_cut 16 l ∙ m.here;
    others = λ b ne new. joined-blocks b 16 l ∙ m.others b ne new;
    gone = λ ne. absurd (ne refl);
    fresh = λ ne. absurd (ne refl);
  }

  moves_to : (o : Option (Split Segment)) → hole_for (4 + length bytes) h.segments ≡ o
      → Moves at_cut bytes h (release_block at_cut (placed_in bytes k o).heap) (placed_in bytes k o).address
  moves_to o e =
      let w = placed-puts bytes k in
      let o_is : hole_for (4 + length bytes) k.segments ≡ o = ap (hole_for (4 + length bytes)) same ∙ e in
      let p : PutsBlock bytes h (placed_block bytes k).heap (placed_block bytes k).address = record {
        fresh = ap (bytes_at (placed_block bytes k).address 16) (sym same) ∙ w.fresh;
        here = w.here;
        others = λ b ne. w.others b ne ∙ ap (bytes_at b 16) same;
      } in
      subst (λ x. Moves at_cut bytes h (release_block at_cut (placed_in bytes k x).heap) (placed_in bytes k x).address) o_is
      (elsewhere at_cut old bytes h (placed_block bytes k).heap (placed_block bytes k).address there p)

  by-moves : (w : Way) → WayIs (4 + length bytes) s h w → (w ≡ Stays → bytes ≡ old)
      → Moves at_cut bytes h (resized_by w bytes s k).heap (resized_by w bytes s k).address
  by-moves Stays i st = record {
    here = ap (bytes_at at_cut 16) same ∙ there ∙ ap Some (sym (st refl));
    others = λ b ne new. ap (bytes_at b 16) same;
    gone = λ ne. absurd (ne refl);
    fresh = λ ne. absurd (ne refl);
  }
  by-moves Shrinks i st =
      let r : ℕ = size_of s.here - (4 + length bytes) in
      after-joined (s.before ++ Used bytes ∷ Hole r ∷ s.after) k.end (stretched (Hole r ∷ s.after)
      (λ b. ap (λ p. bytes_at b p s.after) (omega (arith, size-is, i))))
  by-moves (GrowsIntoHole n rest) i st =
      let r : ℕ = (size_of s.here + n) - (4 + length bytes) in
      stretched (with_hole r rest) (λ b. with_hole-blocks b (place_after s.before + (4 + length bytes)) r rest
      ∙ ap (λ p. bytes_at b p rest) (let l = i.0 in omega (arith, size-is))
      ∙ sym (ap (bytes_at b (place_after s.before + (4 + length old))) i.1))
  by-moves GrowsAtTop i st = stretched [] (λ b. sym (ap (bytes_at b (place_after s.before + (4 + length old))) i))
  by-moves (MovesToHole hole) i st = moves_to (Some hole) i
  by-moves MovesToTop i st = moves_to None i

-- a block that is resized
pub resize_growing-moves : (a n : ℕ) (s : Split Segment) (h : Heap) → block_at a h ≡ Some s
    → Moves a (fitted (block_room n) (bytes_of s.here)) h (resize_growing n s h).heap (resize_growing n s h).address
resize_growing-moves a n s h e =
    let c : IsCut size_of (is_block_at a) 16 h.segments s =
    subst (λ o. IfSome o (IsCut size_of (is_block_at a) 16 h.segments)) e (first_at-cuts size_of (is_block_at a) 16 h.segments) in
    let b = block_cut a (16 + total size_of s.before) s.here c.passes in
    let old = b.0 in
    let bytes = fitted (block_room n) (bytes_of s.here) in
    let size : 4 + length bytes ≡ segment_size n = omega (arith, length-fitted (block_room n) (bytes_of s.here)) in
    let whole : h.segments ≡ s.before ++ Used old ∷ s.after = c.whole ∙ ap (λ g. s.before ++ g ∷ s.after) b.1 in
    let is : WayIs (4 + length bytes) s h (way_to (segment_size n) s h) =
    subst (λ t. WayIs t s h (way_to (segment_size n) s h)) (sym size) (way-is (segment_size n) s h) in
    let stays : way_to (segment_size n) s h ≡ Stays → bytes ≡ old = λ w.
    let same : 4 + length bytes ≡ size_of s.here = subst (WayIs (4 + length bytes) s h) w is in
    let here : bytes_of s.here ≡ old = ap bytes_of b.1 in
    fitted-same (block_room n) (bytes_of s.here) (omega (arith, length-fitted (block_room n) (bytes_of s.here), ap size_of b.1, ap (λ l. length l) here))
    ∙ here in
    let m = by-moves s h (raised (resize_need n s h) h) old bytes b.1 whole refl (way_to (segment_size n) s h) is stays in
    subst (λ x. Moves x bytes h (resize_growing n s h).heap (resize_growing n s h).address) (sym b.2) m
