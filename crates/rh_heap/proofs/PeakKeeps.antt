-- What keeps the numbers of tracts at least the sizes of their holes.
use Rattle.rh_heap.proofs.Common.{◌≡◌, ◌≢◌, ℕ, ◌+◌, ◌-◌, ◌*◌, ◌/◌, ◌%◌, ◌<◌, ◌≤◌, inl, false, zero, suc, List, [], ◌∷◌, ◌++◌, length, refl, sym, ap, subst}
use Rattle.rh_heap.proofs.Common.{◌∙◌, append_assoc, arith, None, word, total, Segment, Used, Hole, Heap, Placed, IsTidy, size_of, base, with_hole}
use Rattle.rh_heap.proofs.Common.{release_block, placed_block}
use Rattle.rh_heap.proofs.Common.{hole_for, Spells, Stand, HasRoom, HasRoom-from_tidy, HasRoom-append, total-append, tidy_behind_used, Stand-split, GapIs}
use Rattle.rh_heap.proofs.Common.{last_link, no_gap, a_gap, FoundBlock, FoundHole, Spot, Gap}
use Rattle.rh_peaks.specs.Peaks.{IsTree, peak}
use Rattle.rh_heap.specs.TractNumbers.{AreMore}
use Rattle.rh_store.specs.Tracts.{AreBelow, ArePeaks}
use Rattle.rh_heap.proofs.Common.{fitted, way_to, resized_by, resized_in}
use Rattle.rh_defs.specs.Heap as heap
use Rattle.rh_heap.proofs.ReleaseLaws.{released_is}
use Rattle.rh_heap.proofs.ResizeLaws.{length-fitted, IntoOf, TopOf, shrunk_is, widened_is}
use Rattle.rh_heap.proofs.WayLaws.{cut_of}
use Rattle.rh_heap.proofs.MoveLaws.{placed_at}
use Rattle.rh_heap.proofs.KeepLaws.{gap_order}
use Rattle.rh_heap.proofs.StartLaws.{units_of, units-total}
use Rattle.rh_heap.proofs.ClaimLaws.{placed_found, placed_none}
use Rattle.rh_heap.proofs.TractLaws.{below_join, below_split, below_up_to}

-- what a call has noted of the hole that begins at low now, if one does
pub record Raised (c : List ℕ) (at : ℕ) (old new : List ℕ) (low upper base' : ℕ) : Type 0 where
  pub tree : IsTree new
  pub more : AreMore old new
  pub here : low < upper → low < base' → low / 2048 < length old / 2 → word c (at + (low + 4)) ≤ peak new (low / 2048)
  pub long : length new ≡ length old

module _ (c : List ℕ) (at : ℕ) (k : Heap) (s : Spells c at k) (old new : List ℕ) (more : AreMore old new) (long : k.end ≤ 2048 * (length old / 2)) where
  -- numbers that are no less are still large enough
  more_below : (q : ℕ) (xs : List Segment) → HasRoom xs → q + total size_of xs ≤ base k → AreBelow (peak old) q xs → AreBelow (peak new) q xs
  more_below q xs room fit a = let fits = s.heap.fits in below_up_to (peak old) (peak new) (base k) q xs room fit (λ i under. more i (omega arith)) a

  rest_below : (low n : ℕ) (after : List Segment) → HasRoom after → AreBelow (peak old) (low + n) after → low + total size_of (with_hole n after) ≤ base k
      → ((size : ℕ) (ys : List Segment) → 0 < n → with_hole n after ≡ Hole size ∷ ys → size ≤ peak new (low / 2048)) → AreBelow (peak new) low
      (with_hole n after)
  rest_below low zero after room a fit hole = more_below low after room fit
      (subst (λ q. AreBelow (peak old) q after) (let e : low + 0 ≡ low = omega arith in e) a)
  rest_below low (suc n) [] room a fit hole = tt
  rest_below low (suc n) (Hole m ∷ ys) room a fit hole = (
    hole (suc n + m) ys (omega arith) refl,
    subst (λ q. AreBelow (peak new) q ys) (let e : low + suc n + m ≡ low + (suc n + m) = omega arith in e)
        (more_below (low + suc n + m) ys room.1 (omega arith) a.1),
  )
  rest_below low (suc n) (Used bs ∷ ys) room a fit hole = (
    hole (suc n) (Used bs ∷ ys) (omega arith) refl,
    more_below (low + suc n + (4 + length bs)) ys room (omega arith) a,
  )

  -- a stretch became a hole, or nothing
  pub settled_below : (front after : List Segment) (low upper base' : ℕ) → k.segments ≡ front ++ with_hole (upper - low) after → low ≡ 16 + total size_of front
      → low ≤ upper → base' ≡ base k → HasRoom after
      → (low < upper → low < base' → low / 2048 < length old / 2 → word c (at + (low + 4)) ≤ peak new (low / 2048))
      → AreBelow (peak old) 16 front → AreBelow (peak old) upper after → AreBelow (peak new) 16 k.segments
  settled_below front after low upper base' is there order eb room here a b =
      let rest = with_hole (upper - low) after in
      let fits = s.heap.fits in
      let sums = ap (total size_of) is ∙ total-append front rest in
      let rooms = HasRoom-append front rest (subst HasRoom is (HasRoom-from_tidy false k.segments s.heap.tidy)) in
      let parts = Stand-split c (at + 4) (at + 16) front rest (subst (Stand c (at + 4) (at + 16)) is s.stand) in
      let size_of_it : (size : ℕ) (ys : List Segment) → 0 < upper - low → rest ≡ Hole size ∷ ys → size ≤ peak new (low / 2048) =
      λ size ys some cut.
      let big = (subst HasRoom cut rooms.1).0 in
      let all = ap (total size_of) cut in
      let stands = subst (λ l. Stand c (last_link (at + 4) (at + 16) front) (at + 16 + total size_of front) l) cut parts.1 in
      let read : word c (at + (low + 4)) ≡ size = ap (word c) (let e : at + (low + 4) ≡ at + 16 + total size_of front + 4 = omega arith in e) ∙ stands.1 in
      let most = here (omega arith) (omega arith) (omega arith) in
      omega arith in
      subst (AreBelow (peak new) 16) (sym is) (below_join (peak new) 16 front rest (more_below 16 front rooms.0 (omega arith) a)
      (subst (λ q. AreBelow (peak new) q rest) there
      (rest_below low (upper - low) after room (subst (λ q. AreBelow (peak old) q after) (let e : upper ≡ low + (upper - low) = omega arith in e) b)
      (omega arith) size_of_it)))

-- a hole's words lie in the bytes
pub note_room : (c : List ℕ) (at : ℕ) (k : Heap) → Spells c at k → (low base' : ℕ) → low % 8 ≡ 0 → base' ≡ base k → low < base' → at + (low + 4) + 4 ≤ length c
note_room c at k s low base' even eb less =
    let units = units-total k.segments (units_of false k.segments s.heap.tidy) in
    let fits = s.heap.fits in
    let within = s.within in
    omega arith

-- an empty row says nothing
pub empty_peaks : (h : Heap) → ArePeaks [] h
empty_peaks h = record {
  tree = record { width = inl refl; larger = λ k some less. absurd (omega arith) };
  few = omega arith;
  long = λ some. absurd (some refl);
  below = λ some. absurd (some refl);
}

-- ---- the calls
-- a row for a heap that a call has changed
peaks_of : (old new : List ℕ) (h k : Heap) → ArePeaks old h → IsTree new → length new ≡ length old → k.end ≡ h.end
    → (length old ≢ 0 → AreBelow (peak new) 16 k.segments) → ArePeaks new k
peaks_of old new h k p tree el ends below =
    let half : length new / 2 ≡ length old / 2 = ap (λ n. n / 2) el in
    record {
      tree = tree;
      few = (let f = p.few in omega arith);
      long = λ some. (let l = p.long (λ z. some (el ∙ z)) in omega arith);
      below = λ some. below (λ z. some (el ∙ z));
    }

-- a block in a hole
module _ (at : ℕ) (h : Heap) (t : ℕ) (gap : Gap) (f : FoundHole at h t gap) (bs : List ℕ) (et : t ≡ 4 + length bs) (tidy : IsTidy false h.segments) where
  pub fill_peaks : (c old new : List ℕ) (base' : ℕ) → Spells c at (placed_block bs h).heap → ArePeaks old h
      → Raised c at old new (gap.place + t) (gap.place + gap.size) base' → base' ≡ base (placed_block bs h).heap → ArePeaks new (placed_block bs h).heap
  fill_peaks c old new base' s p r eb =
      let place = f.place_is in
      let fits = f.fits in
      let low = gap.place + t in
      let upper = gap.place + gap.size in
      let front = f.before ++ Used bs ∷ [] in
      let done = placed_found at h t gap f bs et in
      let ends : (placed_block bs h).heap.end ≡ h.end = ap (λ (p : Placed). p.heap.end) done in
      let is : (placed_block bs h).heap.segments ≡ front ++ with_hole (upper - low) f.after =
      ap (λ (p : Placed). p.heap.segments) done
      ∙ ap (λ n. f.before ++ Used bs ∷ with_hole n f.after) (let e : gap.size - (4 + length bs) ≡ upper - low = omega arith in e)
      ∙ sym (append_assoc f.before (Used bs ∷ []) (with_hole (upper - low) f.after)) in
      let rooms = HasRoom-append f.before (Hole gap.size ∷ f.after)
      (HasRoom-from_tidy false (f.before ++ Hole gap.size ∷ f.after) (subst (IsTidy false) f.is tidy)) in
      peaks_of old new h (placed_block bs h).heap p r.tree r.long ends (λ row.
      let parts = below_split (peak old) 16 f.before (Hole gap.size ∷ f.after) (subst (AreBelow (peak old) 16) f.is (p.below row)) in
      let long = p.long row in
      settled_below c at (placed_block bs h).heap s old new r.more (omega arith) front f.after low upper base' is
      (omega (arith, total-append f.before (Used bs ∷ [])))
      (omega arith) eb rooms.1.1 r.here
      (below_join (peak old) 16 f.before (Used bs ∷ []) parts.0 tt)
      (subst (λ q. AreBelow (peak old) q f.after) (let e : 16 + total size_of f.before + gap.size ≡ upper = omega arith in e) parts.1.1))

-- a block at the top
pub append_peaks : (at : ℕ) (h : Heap) (t : ℕ) → hole_for t h.segments ≡ None → (bs : List ℕ) → t ≡ 4 + length bs → (old : List ℕ) → ArePeaks old h
    → ArePeaks old (placed_block bs h).heap
append_peaks at h t none bs et old p =
    let done = placed_none at h t none bs et in
    let is : (placed_block bs h).heap.segments ≡ h.segments ++ Used bs ∷ [] = ap (λ (p : Placed). p.heap.segments) done in
    peaks_of old old h (placed_block bs h).heap p p.tree refl (ap (λ (p : Placed). p.heap.end) done)
    (λ row. subst (AreBelow (peak old) 16) (sym is) (below_join (peak old) 16 h.segments (Used bs ∷ []) (p.below row) tt))

-- a block that goes
gap_below : (f : ℕ → ℕ) (low place link from : ℕ) (gap : List Segment) (bs : List ℕ) (after : List Segment) → GapIs low place link from gap
    → AreBelow f low (gap ++ Used bs ∷ after) → AreBelow f (place + (4 + length bs)) after
gap_below f low place link from [] bs after (no_gap e g) a = subst (λ q. AreBelow f (q + (4 + length bs)) after) e a
gap_below f low place link from (Hole n ∷ []) bs after (a_gap _ e g) a = subst (λ q. AreBelow f (q + (4 + length bs)) after) (sym e) a.1
gap_below f low place link from (Used cs ∷ ss) bs after k a = elim k [ ]
gap_below f low place link from (Hole n ∷ x ∷ ss) bs after k a = elim k [ ]

module _ (at : ℕ) (h : Heap) (address : ℕ) (spot : Spot) (t : IsTidy false h.segments) (f : FoundBlock at h address spot) where
  pub release_peaks : (c old new : List ℕ) (base' : ℕ) → Spells c at (release_block address h) → ArePeaks old h
      → Raised c at old new spot.low (spot.place + spot.size) base' → base' ≡ base (release_block address h) → ArePeaks new (release_block address h)
  release_peaks c old new base' s p r eb =
      let q = f.reached in
      let bs = f.bytes in
      let passed = q.front ++ q.gap in
      let is : h.segments ≡ passed ++ Used bs ∷ f.after = q.is ∙ ap (λ l. passed ++ l) f.rest_is in
      let is' : h.segments ≡ q.front ++ (q.gap ++ Used bs ∷ f.after) = is ∙ append_assoc q.front q.gap (Used bs ∷ f.after) in
      let behind = tidy_behind_used false passed bs f.after (subst (IsTidy false) is t) in
      let low = q.low_is in
      let size = f.size_is in
      let upper = spot.place + spot.size in
      let order = gap_order spot.low spot.place spot.link spot.from q.gap q.gap_is in
      let done = released_is at h address spot t f in
      let ends : (release_block address h).end ≡ h.end = ap (λ (k : Heap). k.end) done in
      peaks_of old new h (release_block address h) p r.tree r.long ends (λ row.
      let parts = below_split (peak old) 16 q.front (q.gap ++ Used bs ∷ f.after) (subst (AreBelow (peak old) 16) is' (p.below row)) in
      let long = p.long row in
      let rest = gap_below (peak old) spot.low spot.place spot.link spot.from q.gap bs f.after q.gap_is
      (subst (λ z. AreBelow (peak old) z (q.gap ++ Used bs ∷ f.after)) (sym low) parts.1) in
      settled_below c at (release_block address h) s old new r.more (omega arith) q.front f.after spot.low upper base'
      (ap (λ (k : Heap). k.segments) done) low
      (omega arith) eb (HasRoom-from_tidy false f.after behind.1) r.here parts.0
      (subst (λ z. AreBelow (peak old) z f.after) (let e : spot.place + (4 + length bs) ≡ upper = omega arith in e) rest))

-- ---- blocks that get another size in their place
module _ (b : List ℕ) (at : ℕ) (h : Heap) (spot : Spot) (s : Spells b at h) (f : FoundBlock at h (spot.place + 4) spot) (t : ℕ) (least : 8 ≤ t) where
  abbrev passed : List Segment
  passed = f.reached.front ++ f.reached.gap

  abbrev now : List ℕ
  now = fitted (t - 4) f.bytes

  abbrev resized : Heap
  resized = (resized_in t (cut_of at h spot f) h).heap

  here_is : h.segments ≡ passed ++ Used f.bytes ∷ f.after
  here_is = f.reached.is ∙ ap (λ l. passed ++ l) f.rest_is

  behind_is : IsTidy false f.after
  behind_is = (tidy_behind_used false passed f.bytes f.after (subst (IsTidy false) here_is s.heap.tidy)).1

  front_total : 16 + total size_of (passed ++ Used now ∷ []) ≡ spot.place + t
  front_total = let p = f.reached.place_is in let l = length-fitted (t - 4) f.bytes in omega (arith, total-append passed (Used now ∷ []))

  -- the numbers of the heap before it and behind it
  front_below : (f' : ℕ → ℕ) → AreBelow f' 16 h.segments → AreBelow f' 16 (passed ++ Used now ∷ [])
  front_below f' a =
      let parts = below_split f' 16 passed (Used f.bytes ∷ f.after) (subst (AreBelow f' 16) here_is a) in
      below_join f' 16 passed (Used now ∷ []) parts.0 tt

  after_below : (f' : ℕ → ℕ) → AreBelow f' 16 h.segments → AreBelow f' (spot.place + spot.size) f.after
  after_below f' a =
      let parts = below_split f' 16 passed (Used f.bytes ∷ f.after) (subst (AreBelow f' 16) here_is a) in
      let p = f.reached.place_is in
      let size = f.size_is in
      subst (λ q. AreBelow f' q f.after) (let e : 16 + total size_of passed + (4 + length f.bytes) ≡ spot.place + spot.size = omega arith in e) parts.1

  pub shrink_peaks : (c old new : List ℕ) (base' : ℕ) → t % 8 ≡ 0 → t < spot.size → Spells c at resized → ArePeaks old h
      → Raised c at old new (spot.place + t) (spot.place + spot.size) base' → base' ≡ base resized → ArePeaks new resized
  shrink_peaks c old new base' mult shorter k p r eb =
      let done = shrunk_is b at h spot s f t least mult shorter in
      let ends : resized.end ≡ h.end = ap (λ (k : Heap). k.end) done in
      peaks_of old new h resized p r.tree r.long ends (λ row.
      let long = p.long row in
      settled_below c at resized k old new r.more (omega arith) (passed ++ Used now ∷ []) f.after (spot.place + t) (spot.place + spot.size) base'
      (ap (λ (k : Heap). k.segments) done) (sym front_total) (omega arith) eb (HasRoom-from_tidy false f.after behind_is) r.here
      (front_below (peak old) (p.below row)) (after_below (peak old) (p.below row)))

  pub widen_peaks : (c old new : List ℕ) (base' room : ℕ) → t % 8 ≡ 0 → (w : IntoOf at h spot f t room (way_to t (cut_of at h spot f) h)) → Spells c at resized
      → ArePeaks old h → Raised c at old new (spot.place + t) (spot.place + spot.size + room) base' → base' ≡ base resized → ArePeaks new resized
  widen_peaks c old new base' room mult w k p r eb =
      let done = widened_is b at h spot s f t mult room w in
      let longer = w.longer in
      let fits = w.fits in
      let size = f.size_is in
      let ends : resized.end ≡ h.end = ap (λ (k : Heap). k.end) done in
      peaks_of old new h resized p r.tree r.long ends (λ row.
      let long = p.long row in
      let rest = subst (AreBelow (peak old) (spot.place + spot.size)) w.after_is (after_below (peak old) (p.below row)) in
      settled_below c at resized k old new r.more (omega arith) (passed ++ Used now ∷ []) w.rest (spot.place + t) (spot.place + spot.size + room) base'
      (ap (λ (k : Heap). k.segments) done) (sym front_total) (omega arith) eb
      (HasRoom-from_tidy false (Hole room ∷ w.rest) (subst (IsTidy false) w.after_is behind_is)).1 r.here
      (front_below (peak old) (p.below row)) rest.1)

  pub raise_peaks : (old : List ℕ) → (w : TopOf at h spot f t (way_to t (cut_of at h spot f) h)) → ArePeaks old h → ArePeaks old resized
  raise_peaks old w p =
      let done : resized ≡ record { segments = passed ++ Used now ∷ []; end = h.end } =
      ap (λ (v : heap.Way). (resized_by v now (cut_of at h spot f) h).heap) w.way_is in
      subst (ArePeaks old) (sym done) (record { tree = p.tree; few = p.few; long = p.long; below = λ row. front_below (peak old) (p.below row) })

-- ---- a block's bytes don't matter
pub other_bytes_peaks : (nodes : List ℕ) (h : Heap) (t : ℕ) (bs cs : List ℕ) → t ≡ 4 + length bs → t ≡ 4 + length cs → ArePeaks nodes (placed_block bs h).heap
    → ArePeaks nodes (placed_block cs h).heap
other_bytes_peaks nodes h t bs cs eb ec p =
    let q = placed_at h t in
    let one = q.is bs eb in
    let two = q.is cs ec in
    let f = peak nodes in
    record {
      tree = p.tree;
      few = p.few;
      long = λ row. (let l = p.long row in omega (arith, ap (λ (r : Placed). r.heap.end) one, ap (λ (r : Placed). r.heap.end) two));
      below = λ row.
          let parts = below_split f 16 q.front (Used bs ∷ q.rest) (subst (AreBelow f 16) (ap (λ (r : Placed). r.heap.segments) one) (p.below row)) in
          let rest = subst (λ n. AreBelow f (16 + total size_of q.front + n) q.rest) (let e : 4 + length bs ≡ 4 + length cs = omega arith in e) parts.1 in
          subst (AreBelow f 16) (sym (ap (λ (r : Placed). r.heap.segments) two)) (below_join f 16 q.front (Used cs ∷ q.rest) parts.0 rest);
    }
