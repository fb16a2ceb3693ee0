-- A heap stays one after each call on it.
use Rattle.rh_defs.proofs.Common.{◌≡◌, ℕ, ◌+◌, ◌-◌, ◌≤◌, ◌<◌, ◌%◌, Bool, true, false, cond, refl, sym, ap, subst, ◌∙◌, arith, List, [], ◌∷◌, ◌++◌, length}
use Rattle.rh_defs.proofs.Common.{append_assoc, length-replicate, Option, Some, None, IfSome, nat_le, nat_lt, ◌==◌, total, zeros, Split, Heap, Segment, Used}
use Rattle.rh_defs.proofs.Common.{Hole, Way, Stays, Shrinks, GrowsIntoHole, GrowsAtTop, MovesToHole, MovesToTop, IsTidy, IsHeap, size_of, bytes_of, base}
use Rattle.rh_defs.proofs.Common.{place_after, first_place, with_hole, joined, placed_in, hole_for, is_hole_for, is_block_at, block_at, shortage_in, need}
use Rattle.rh_defs.proofs.Common.{raised, segment_size, block_room, claim_growing, released, release_block, release_found, fitted, way_to, way_to_grow}
use Rattle.rh_defs.proofs.Common.{way_beyond}
use Rattle.rh_defs.proofs.Common.{resized_by, end_for, resize_growing}
use borrow.Author.Tests.{ltb-true, leb-true}
use Rattle.rh_defs.proofs.HeapLists.{total-append, tidy_after, tidy_before, tidy_front, tidy_other, tidy_behind_used, tidy_behind_hole, tidy_join}
use Rattle.rh_defs.proofs.HeapLists.{tidy_with_hole, total-with_hole, IsCut, first_at-cuts}
use Rattle.rh_defs.proofs.SlotRooms.{length-fitted}

-- ---- lists of segments whose sizes are multiples of 8

abbrev pub AreUnits : List Segment → Type 0
AreUnits [] = Unit {0}
AreUnits (g ∷ segments) = (size_of g % 8 ≡ 0) × AreUnits segments

units-tidy : (after_hole : Bool) (segments : List Segment) → IsTidy after_hole segments → AreUnits segments
units-tidy false [] t = tt
units-tidy true [] t = absurd t
units-tidy false (Used bytes ∷ segments) t = (t.0, units-tidy false segments t.1)
units-tidy true (Used bytes ∷ segments) t = (t.0, units-tidy false segments t.1)
units-tidy false (Hole n ∷ segments) t = (t.1, units-tidy true segments t.2)
units-tidy true (Hole n ∷ segments) t = absurd t

units-here : (before : List Segment) (g other : Segment) (after : List Segment) → size_of other % 8 ≡ 0 → AreUnits (before ++ g ∷ after)
    → AreUnits (before ++ other ∷ after)
units-here [] g other after m u = (m, u.1)
units-here (x ∷ before) g other after m u = (u.0, units-here before g other after m u.1)

units-more : (before : List Segment) (g more : Segment) (after : List Segment) → size_of more % 8 ≡ 0 → AreUnits (before ++ g ∷ after)
    → AreUnits (before ++ g ∷ more ∷ after)
units-more [] g more after m u = (u.0, (m, u.1))
units-more (x ∷ before) g more after m u = (u.0, units-more before g more after m u.1)

-- joined, they are tidy
tidy-joined : (segments : List Segment) → AreUnits segments → IsTidy false (joined segments)
tidy-joined [] u = tt
tidy-joined (Used bytes ∷ segments) u = (u.0, tidy-joined segments u.1)
tidy-joined (Hole n ∷ segments) u = tidy_with_hole n (joined segments) u.0 (tidy-joined segments u.1)

-- and take no more bytes
total-joined : (segments : List Segment) → total size_of (joined segments) ≤ total size_of segments
total-joined [] = omega arith
total-joined (Used bytes ∷ segments) = omega (arith, total-joined segments)
total-joined (Hole n ∷ segments) = omega (arith, total-joined segments, total-with_hole n (joined segments))

-- the sizes round a cut
cut-total : {test : ℕ → Segment → Bool} {place : ℕ} {segments : List Segment} {s : Split Segment} → IsCut size_of test place segments s
    → total size_of segments ≡ total size_of s.before + (size_of s.here + total size_of s.after)
cut-total {s = s} c = ap (total size_of) c.whole ∙ total-append s.before (s.here ∷ s.after)

-- ---- claims

pub raised-heap : (n : ℕ) (h : Heap) → IsHeap h → IsHeap (raised n h)
raised-heap n h is = record { tidy = is.tidy; fits = omega (arith, is.fits); multiple = omega (arith, is.multiple) }

-- a hole that is found is one, and large enough
hole-found : (t place : ℕ) (g : Segment) → is_hole_for t place g ≡ true → (g ≡ Hole (size_of g)) × (t ≤ size_of g)
hole-found t place (Used bytes) e = absurd cc
hole-found t place (Hole n) e = (refl, leb-true _ _ e)

placed-hole : (bytes : List ℕ) (h : Heap) (s : Split Segment) → (4 + length bytes) % 8 ≡ 0 → IsHeap h
    → IsCut size_of (is_hole_for (4 + length bytes)) first_place h.segments s → IsHeap (placed_in bytes h (Some s)).heap
placed-hole bytes h s m is c =
    let n = size_of s.here in
    let found = hole-found (4 + length bytes) (first_place + total size_of s.before) s.here c.passes in
    let whole : h.segments ≡ s.before ++ Hole n ∷ s.after = c.whole ∙ ap (λ g. s.before ++ g ∷ s.after) found.0 in
    let tidy : IsTidy false (s.before ++ Hole n ∷ s.after) = subst (IsTidy false) whole is.tidy in
    let behind = tidy_behind_hole false s.before n s.after tidy in
    record {
      tidy = tidy_join false s.before _ (tidy_before false s.before n s.after tidy)
          (m, tidy_with_hole (n - (4 + length bytes)) s.after (omega (arith, m, behind.0, found.1)) (tidy_after s.after behind.1));
      fits =
          omega (
            arith,
            is.fits,
            found.1,
            cut-total c,
            total-append s.before (Used bytes ∷ with_hole (n - (4 + length bytes)) s.after),
            total-with_hole (n - (4 + length bytes)) s.after,
          );
      multiple = is.multiple;
    }

placed-top : (bytes : List ℕ) (h : Heap) → (4 + length bytes) % 8 ≡ 0 → base h + (4 + length bytes) ≤ h.end → IsHeap h → IsHeap (placed_in bytes h None).heap
placed-top bytes h m room is = record {
  tidy = tidy_join false h.segments (Used bytes ∷ []) is.tidy (m, tt);
  fits = omega (arith, room, total-append h.segments (Used bytes ∷ []));
  multiple = is.multiple;
}

placed-heap : (bytes : List ℕ) (h : Heap) (o : Option (Split Segment)) → (4 + length bytes) % 8 ≡ 0 → IsHeap h
    → IfSome o (IsCut size_of (is_hole_for (4 + length bytes)) first_place h.segments) → shortage_in (4 + length bytes) h o ≡ 0
    → IsHeap (placed_in bytes h o).heap
placed-heap bytes h (Some s) m is c e = placed-hole bytes h s m is c
placed-heap bytes h None m is c e = placed-top bytes h m (omega arith) is

raised-room : (t : ℕ) (h : Heap) (o : Option (Split Segment)) → shortage_in t (raised (shortage_in t h o) h) o ≡ 0
raised-room t h (Some s) = refl
raised-room t h None = omega arith

pub claim_growing-heap : (n : ℕ) (h : Heap) → IsHeap h → IsHeap (claim_growing n h).heap
claim_growing-heap n h is =
    let bytes = zeros (block_room n) in
    let size : 4 + length bytes ≡ segment_size n = omega (arith, length-replicate {A = ℕ} (block_room n) 0) in
    let room : shortage_in (4 + length bytes) (raised (need n h) h) (hole_for (4 + length bytes) h.segments) ≡ 0 =
    subst (λ t. shortage_in t (raised (need n h) h) (hole_for t h.segments) ≡ 0) (sym size)
    (raised-room (segment_size n) h (hole_for (segment_size n) h.segments)) in
    placed-heap bytes (raised (need n h) h) (hole_for (4 + length bytes) h.segments) (omega (arith, size)) (raised-heap (need n h) h is)
    (first_at-cuts size_of (is_hole_for (4 + length bytes)) first_place h.segments) room

-- ---- releases

pub released-heap : (test : ℕ → Segment → Bool) (s : Split Segment) (h : Heap) → IsHeap h → IsCut size_of test first_place h.segments s → IsHeap (released s h)
released-heap test s h is c =
    let units = subst AreUnits c.whole (units-tidy false h.segments is.tidy) in
    let holes = units-here s.before s.here (Hole (size_of s.here)) s.after (unit-here s.before s.here s.after units) units in
    record {
      tidy = tidy-joined (s.before ++ Hole (size_of s.here) ∷ s.after) holes;
      fits =
          omega (
            arith,
            is.fits,
            cut-total c,
            total-append s.before (Hole (size_of s.here) ∷ s.after),
            total-joined (s.before ++ Hole (size_of s.here) ∷ s.after),
          );
      multiple = is.multiple;
    }
  where
    unit-here : (before : List Segment) (g : Segment) (after : List Segment) → AreUnits (before ++ g ∷ after) → size_of g % 8 ≡ 0
    unit-here [] g after u = u.0
    unit-here (x ∷ before) g after u = unit-here before g after u.1

release_found-heap : (address : ℕ) (h : Heap) (o : Option (Split Segment)) → IsHeap h → IfSome o (IsCut size_of (is_block_at address) first_place h.segments)
    → IsHeap (release_found o h)
release_found-heap address h None is c = is
release_found-heap address h (Some s) is c = released-heap (is_block_at address) s h is c

pub release-heap : (address : ℕ) (h : Heap) → IsHeap h → IsHeap (release_block address h)
release-heap address h is = release_found-heap address h (block_at address h) is (first_at-cuts size_of (is_block_at address) first_place h.segments)

-- ---- resizes

-- what a way to another size rests on
abbrev WayHolds : Way → ℕ → Split Segment → Heap → Type 0
WayHolds Stays t s h = Unit {0}
WayHolds Shrinks t s h = t ≤ size_of s.here
WayHolds (GrowsIntoHole n rest) t s h = (t ≤ size_of s.here + n) × (s.after ≡ Hole n ∷ rest)
WayHolds GrowsAtTop t s h = s.after ≡ []
WayHolds (MovesToHole hole) t s h = IsCut size_of (is_hole_for t) first_place h.segments hole
WayHolds MovesToTop t s h = Unit {0}

module _ (t : ℕ) (s : Split Segment) (h : Heap) where
  beyond-holds : (after : List Segment) → s.after ≡ after → (o : Option (Split Segment)) → IfSome o (IsCut size_of (is_hole_for t) first_place h.segments)
      → WayHolds (way_beyond after o) t s h
  beyond-holds after e (Some hole) c = c
  beyond-holds [] e None c = e
  beyond-holds (g ∷ after) e None c = tt

  hole-cuts : IfSome (hole_for t h.segments) (IsCut size_of (is_hole_for t) first_place h.segments)
  hole-cuts = first_at-cuts size_of (is_hole_for t) first_place h.segments

  grow-holds : (after : List Segment) → s.after ≡ after → WayHolds (way_to_grow t s after h) t s h
  grow-holds [] e =
      elim (nat_le (place_after s.before + t) h.end) as (λ b. WayHolds (cond b GrowsAtTop (way_beyond [] (hole_for t h.segments))) t s h)
      [ true ↦ e | false ↦ beyond-holds [] e (hole_for t h.segments) hole-cuts ]
  grow-holds (Used bytes ∷ after) e = beyond-holds (Used bytes ∷ after) e (hole_for t h.segments) hole-cuts
  grow-holds (Hole n ∷ after) e = go (nat_le t (size_of s.here + n)) refl
    where
      go : (b : Bool) → nat_le t (size_of s.here + n) ≡ b
          → WayHolds (cond b (GrowsIntoHole n after) (way_beyond (Hole n ∷ after) (hole_for t h.segments))) t s h
      go true le = (leb-true _ _ le, e)
      go false le = beyond-holds (Hole n ∷ after) e (hole_for t h.segments) hole-cuts

  way-holds : WayHolds (way_to t s h) t s h
  way-holds = go (t == size_of s.here) (nat_lt t (size_of s.here)) refl
    where
      go : (same less : Bool) → nat_lt t (size_of s.here) ≡ less → WayHolds (cond same Stays (cond less Shrinks (way_to_grow t s s.after h))) t s h
      go true less e = tt
      go false true e = let l : t < size_of s.here = ltb-true _ _ e in omega arith
      go false false e = grow-holds s.after refl

-- other bytes in a block, and other segments behind it
tidy-behind : (before : List Segment) (old new : List ℕ) (after rest : List Segment) → (4 + length new) % 8 ≡ 0 → IsTidy false (before ++ Used old ∷ after)
    → IsTidy false rest → IsTidy false (before ++ Used new ∷ rest)
tidy-behind before old new after rest m t r =
    subst (IsTidy false) (append_assoc before (Used new ∷ []) rest)
    (tidy_join false (before ++ Used new ∷ []) rest (tidy_other false before old new [] m (tidy_front false before old after t)) r)

-- the cut is at a block
module _ (bytes old : List ℕ) (test : ℕ → Segment → Bool) (s : Split Segment) (h : Heap) (is : IsHeap h) (c : IsCut size_of test first_place h.segments s)
    (used : s.here ≡ Used old) (m : (4 + length bytes) % 8 ≡ 0) where
  whole : h.segments ≡ s.before ++ Used old ∷ s.after
  whole = c.whole ∙ ap (λ g. s.before ++ g ∷ s.after) used

  tidy-here : IsTidy false (s.before ++ Used old ∷ s.after)
  tidy-here = subst (IsTidy false) whole is.tidy

  size-here : size_of s.here ≡ 4 + length old
  size-here = ap size_of used

  resized-heap : (w : Way) → WayHolds w (4 + length bytes) s h → IsHeap (resized_by w bytes s (raised (end_for w (4 + length bytes) s h - h.end) h)).heap
  resized-heap Stays holds = raised-heap _ h is
  resized-heap Shrinks holds =
      let rest = size_of s.here - (4 + length bytes) in
      let behind = tidy_behind_used false s.before old s.after tidy-here in
      let one = units-here s.before (Used old) (Used bytes) s.after m (units-tidy false _ tidy-here) in
      let both = units-more s.before (Used bytes) (Hole rest) s.after (omega (arith, m, holds, behind.0, size-here)) one in
      record {
        tidy = tidy-joined (s.before ++ Used bytes ∷ Hole rest ∷ s.after) both;
        fits =
            omega (
              arith,
              is.fits,
              holds,
              cut-total c,
              total-joined (s.before ++ Used bytes ∷ Hole rest ∷ s.after),
              total-append s.before (Used bytes ∷ Hole rest ∷ s.after),
            );
        multiple = omega (arith, is.multiple);
      }
  resized-heap (GrowsIntoHole n rest) holds =
      let left = (size_of s.here + n) - (4 + length bytes) in
      let behind = tidy_behind_used false s.before old s.after tidy-here in
      let hole : IsTidy false (Hole n ∷ rest) = subst (IsTidy false) holds.1 behind.1 in
      record {
        tidy = tidy-behind s.before old bytes s.after (with_hole left rest) m tidy-here
            (tidy_with_hole left rest (omega (arith, m, behind.0, size-here, hole.1, holds.0)) (tidy_after rest hole.2));
        fits =
            omega (
              arith,
              is.fits,
              holds.0,
              cut-total c,
              ap (total size_of) holds.1,
              total-with_hole left rest,
              total-append s.before (Used bytes ∷ with_hole left rest),
            );
        multiple = omega (arith, is.multiple);
      }
  resized-heap GrowsAtTop holds = record {
    tidy = tidy-behind s.before old bytes s.after [] m tidy-here tt;
    fits = omega (arith, is.fits, total-append s.before (Used bytes ∷ []));
    multiple = omega (arith, is.multiple);
  }
  resized-heap (MovesToHole hole) holds =
      release-heap _ _ (placed-hole bytes (raised (0 - h.end) h) hole m (raised-heap (0 - h.end) h is) holds)
  resized-heap MovesToTop holds =
      release-heap _ _ (placed-top bytes (raised ((base h + (4 + length bytes)) - h.end) h) m (omega arith) (raised-heap _ h is))

-- a block that is found is one
block-found : (address place : ℕ) (g : Segment) → is_block_at address place g ≡ true → g ≡ Used (bytes_of g)
block-found address place (Used bytes) e = refl
block-found address place (Hole n) e = absurd cc

pub resize_growing-heap : (address n : ℕ) (s : Split Segment) (h : Heap) → IsHeap h → IsCut size_of (is_block_at address) first_place h.segments s
    → IsHeap (resize_growing n s h).heap
resize_growing-heap address n s h is c =
    let bytes = fitted (block_room n) (bytes_of s.here) in
    let size : 4 + length bytes ≡ segment_size n = omega (arith, length-fitted (block_room n) (bytes_of s.here)) in
    subst (λ t. IsHeap (resized_by (way_to t s h) bytes s (raised (end_for (way_to t s h) t s h - h.end) h)).heap) size
    (resized-heap bytes (bytes_of s.here) (is_block_at address) s h is c (block-found address _ s.here c.passes) (omega (arith, size))
    (way_to (4 + length bytes) s h) (way-holds (4 + length bytes) s h))
