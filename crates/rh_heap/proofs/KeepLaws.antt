-- What keeps a map the map of its heap.
use Rattle.rh_heap.proofs.Common.{◌≡◌, ◌≢◌, ℕ, ◌+◌, ◌-◌, ◌*◌, ◌/◌, ◌%◌, ◌<◌, ◌≤◌, inl, inr, true, false, List, [], ◌∷◌, ◌++◌, length, refl, sym, ap, subst}
use Rattle.rh_heap.proofs.Common.{◌∙◌, append_assoc, arith, None, cases_eq, cases_lt, total, Segment, Used, Hole, Heap, Placed, IsTidy, size_of, base}
use Rattle.rh_heap.proofs.Common.{with_hole, release_block, placed_block, hole_for, fitted, way_to, resized_by, Spells, HasRoom, HasRoom-from_tidy}
use Rattle.rh_heap.proofs.Common.{HasRoom-append}
use Rattle.rh_heap.proofs.Common.{total-append, tidy_behind_used, tidy_behind_hole, GapIs, no_gap, a_gap, FoundBlock, FoundHole, WayIs, WithBlock, resized_in}
use Rattle.rh_heap.proofs.Common.{bit, once, used_at, hole_at, IsIndex, Became, Spot, Gap, USED, HOLES}
use Rattle.rh_defs.specs.Heap as heap
use Rattle.rh_defs.proofs.HeapLists.{HasRoom-join}
use Rattle.rh_heap.specs.declared.span.resize.ResizeWay.TheVariants as way
use Rattle.rh_heap.specs.Inner.StartNotes.{Noted}
use Rattle.rh_heap.proofs.ReleaseLaws.{released_is}
use Rattle.rh_heap.proofs.ClaimLaws.{placed_found, placed_none}
use Rattle.rh_heap.proofs.ResizeLaws.{length-fitted, IntoOf, TopOf, shrunk_is, widened_is}
use Rattle.rh_heap.proofs.WayLaws.{cut_of, from_cut, WayFacts, if_stays, if_shrinks, if_into, if_top, if_to_hole, if_to_top, way_facts}
use Rattle.rh_heap.proofs.MoveLaws.{placed_at}
use Rattle.rh_heap.proofs.StartLaws.{once_same, once_apart, used_at-append, hole_at-append, used_at-low, hole_at-low, used_at-high, hole_at-high, HasUnits}
use Rattle.rh_heap.proofs.StartLaws.{units_of, units-append, units-total, used_with_hole, hole_noted}

-- what a call has noted of a stretch: the marks that stood open before are in mid
pub record Settled (mid new : List ℕ) (low upper base : ℕ) : Type 0 where
  pub used : (j : ℕ) → bit USED new j ≡ bit USED mid j
  pub holes : (j : ℕ) → Noted (8 * j) low upper base (bit HOLES mid j) (bit HOLES new j)

-- the map is that of front segments and those from upper on, whatever it has at low and at upper
pub record Open (mid : List ℕ) (front after : List Segment) (low upper : ℕ) : Type 0 where
  pub used : (j : ℕ) → bit USED mid j ≡ used_at (8 * j) 16 front + used_at (8 * j) upper after
  pub holes : (j : ℕ) → 8 * j ≢ low → 8 * j ≢ upper → bit HOLES mid j ≡ hole_at (8 * j) 16 front + hole_at (8 * j) upper after

same_mark : (p low upper base v x w front y : ℕ) → Noted p low upper base v w → Noted p low upper base x y → (p ≡ low → front ≡ 0) → (p ≡ upper → front ≡ 0)
    → (p ≢ low → p ≢ upper → v ≡ front + x) → w ≡ front + y
same_mark p low upper base v x w front y m n at_low at_upper beside = elim (cases_eq p low) [
  | inl here ↦ elim (cases_lt low upper) [
    | inl some ↦ elim (cases_lt low base) [
      | inl more ↦ omega (arith, m.begins here some more, n.begins here some more, at_low here)
      | inr none ↦ omega (arith, m.top here none, n.top here none, at_low here)
    ]
    | inr none ↦ omega (arith, m.closed here none, n.closed here none, at_low here)
  ]
  | inr off ↦ elim (cases_eq p upper) [
    | inl here ↦ omega (arith, m.joins off here, n.joins off here, at_upper here)
    | inr apart ↦ omega (arith, m.stays off apart, n.stays off apart, beside off apart)
  ]
]

pub settled : (mid new : List ℕ) (k : Heap) (front after : List Segment) (low upper base' : ℕ) → k.segments ≡ front ++ with_hole (upper - low) after
    → low ≡ 16 + total size_of front → low ≤ upper → (low ≡ upper → IsTidy true after)
    → HasRoom front → HasRoom after → base' ≡ base k → k.end ≤ 512 * (length new / 2) → Open mid front after low upper → Settled mid new low upper base'
    → IsIndex new k
settled mid new k front after low upper base' is at le closed room room' eb long o n =
    let rest = with_hole (upper - low) after in
    let used_is : (p : ℕ) → used_at p 16 k.segments ≡ used_at p 16 front + used_at p upper after =
    λ p. ap (used_at p 16) is ∙ used_at-append p 16 front rest
    ∙ ap (λ q. used_at p 16 front + used_at p q rest) (sym at)
    ∙ ap (λ n. used_at p 16 front + n) (used_with_hole p low (upper - low) after
    ∙ ap (λ q. used_at p q after) (let e : low + (upper - low) ≡ upper = omega arith in e)) in
    let hole_is : (p : ℕ) → hole_at p 16 k.segments ≡ hole_at p 16 front + hole_at p low rest =
    λ p. ap (hole_at p 16) is ∙ hole_at-append p 16 front rest ∙ ap (λ q. hole_at p 16 front + hole_at p q rest) (sym at) in
    let based : low + total size_of rest ≡ base' = omega (arith, ap (total size_of) is, total-append front rest) in
    record {
      long = long;
      used = λ j. n.used j ∙ o.used j ∙ sym (used_is (8 * j));
      holes = λ j. same_mark (8 * j) low upper base' (bit HOLES mid j) (hole_at (8 * j) upper after) (bit HOLES new j) (hole_at (8 * j) 16 front)
          (hole_at (8 * j) low rest) (n.holes j)
          (subst (λ i. Noted (8 * j) low upper i (hole_at (8 * j) upper after) (hole_at (8 * j) low rest)) based
          (hole_noted (8 * j) low upper after le closed room'))
          (λ here. hole_at-high (8 * j) 16 front room (omega arith)) (λ here. hole_at-high (8 * j) 16 front room (omega arith)) (o.holes j)
          ∙ sym (hole_is (8 * j));
    }

-- ---- releases
gap_used : (p low place link from : ℕ) (gap : List Segment) (bs : List ℕ) (after : List Segment) → GapIs low place link from gap
    → used_at p low (gap ++ Used bs ∷ after) ≡ once p place + used_at p (place + (4 + length bs)) after
gap_used p low place link from [] bs after (no_gap e f) = ap (λ q. once p q + used_at p (q + (4 + length bs)) after) e
gap_used p low place link from (Hole n ∷ []) bs after (a_gap _ e f) = ap (λ q. once p q + used_at p (q + (4 + length bs)) after) (sym e ∙ refl)
gap_used p low place link from (Used cs ∷ ss) bs after k = elim k [ ]
gap_used p low place link from (Hole n ∷ x ∷ ss) bs after k = elim k [ ]

gap_holes : (p low place link from : ℕ) (gap : List Segment) (bs : List ℕ) (after : List Segment) → GapIs low place link from gap → p ≢ low
    → hole_at p low (gap ++ Used bs ∷ after) ≡ hole_at p (place + (4 + length bs)) after
gap_holes p low place link from [] bs after (no_gap e f) off = ap (λ q. hole_at p (q + (4 + length bs)) after) e
gap_holes p low place link from (Hole n ∷ []) bs after (a_gap _ e f) off =
    omega (arith, once_apart p low off, ap (λ q. hole_at p (q + (4 + length bs)) after) e)
gap_holes p low place link from (Used cs ∷ ss) bs after k off = elim k [ ]
gap_holes p low place link from (Hole n ∷ x ∷ ss) bs after k off = elim k [ ]

pub gap_order : (low place link from : ℕ) (gap : List Segment) → GapIs low place link from gap → low ≤ place
gap_order low place link from [] (no_gap e f) = omega arith
gap_order low place link from (Hole n ∷ []) (a_gap _ e f) = omega arith
gap_order low place link from (Used cs ∷ ss) k = elim k [ ]
gap_order low place link from (Hole n ∷ x ∷ ss) k = elim k [ ]

module _ (at : ℕ) (h : Heap) (address : ℕ) (spot : Spot) (t : IsTidy false h.segments) (f : FoundBlock at h address spot) where
  pub place_even : spot.place % 8 ≡ 0
  place_even =
      let r = f.reached in
      let passed = r.front ++ r.gap in
      let p = r.place_is in
      omega (
        arith,
        units-total passed (units-append passed (Used f.bytes ∷ f.after)
            (subst HasUnits (r.is ∙ ap (λ l. passed ++ l) f.rest_is) (units_of false h.segments t))).0,
      )

  pub low_even : spot.low % 8 ≡ 0
  low_even =
      let r = f.reached in
      let low = r.low_is in
      omega (
        arith,
        units-total r.front (units-append r.front (r.gap ++ r.rest) (subst HasUnits (r.is ∙ append_assoc r.front r.gap r.rest)
            (units_of false h.segments t))).0,
      )

  pub release_index : (old mid new : List ℕ) (base' : ℕ) → IsIndex old h → Became USED (spot.place / 8) 0 old mid
      → Settled mid new spot.low (spot.place + spot.size) base' → length new ≡ length old
      → base' ≡ base (release_block address h) → IsIndex new (release_block address h)
  release_index old mid new base' i b n el eb =
      let r = f.reached in
      let bs = f.bytes in
      let passed = r.front ++ r.gap in
      let is : h.segments ≡ passed ++ Used bs ∷ f.after = r.is ∙ ap (λ l. passed ++ l) f.rest_is in
      let is' : h.segments ≡ r.front ++ (r.gap ++ Used bs ∷ f.after) = is ∙ append_assoc r.front r.gap (Used bs ∷ f.after) in
      let tidy = subst (IsTidy false) is t in
      let behind = tidy_behind_used false passed bs f.after tidy in
      let room = (HasRoom-append r.front (r.gap ++ Used bs ∷ f.after) (HasRoom-from_tidy false (r.front ++ (r.gap ++ Used bs ∷ f.after))
      (subst (IsTidy false) is' t))).0 in
      let order = gap_order spot.low spot.place spot.link spot.from r.gap r.gap_is in
      let low = r.low_is in
      let size = f.size_is in
      let least = f.least in
      let even = place_even in
      let upper = spot.place + spot.size in
      let e8 : 8 * (spot.place / 8) ≡ spot.place = omega arith in
      let upper_is : spot.place + (4 + length bs) ≡ upper = ap (λ n. spot.place + n) (sym size) in
      let done = released_is at h address spot t f in
      let used_is : (p : ℕ) → used_at p 16 h.segments ≡ used_at p 16 r.front + (once p spot.place + used_at p upper f.after) =
      λ p. ap (used_at p 16) is' ∙ used_at-append p 16 r.front (r.gap ++ Used bs ∷ f.after)
      ∙ ap (λ q. used_at p 16 r.front + used_at p q (r.gap ++ Used bs ∷ f.after)) (sym low)
      ∙ ap (λ n. used_at p 16 r.front + n) (gap_used p spot.low spot.place spot.link spot.from r.gap bs f.after r.gap_is
      ∙ ap (λ q. once p spot.place + used_at p q f.after) upper_is) in
      let hole_is : (p : ℕ) → p ≢ spot.low → hole_at p 16 h.segments ≡ hole_at p 16 r.front + hole_at p upper f.after =
      λ p off. ap (hole_at p 16) is' ∙ hole_at-append p 16 r.front (r.gap ++ Used bs ∷ f.after)
      ∙ ap (λ q. hole_at p 16 r.front + hole_at p q (r.gap ++ Used bs ∷ f.after)) (sym low)
      ∙ ap (λ n. hole_at p 16 r.front + n) (gap_holes p spot.low spot.place spot.link spot.from r.gap bs f.after r.gap_is off
      ∙ ap (λ q. hole_at p q f.after) upper_is) in
      let long = i.long in
      settled mid new (release_block address h) r.front f.after spot.low upper base' (ap (λ (k : Heap). k.segments) done) low (omega arith)
      (λ z. absurd (omega arith)) room (HasRoom-from_tidy false f.after behind.1) eb
      (let en : (release_block address h).end ≡ h.end = ap (λ (k : Heap). k.end) done in let half = ap (λ x. 512 * (x / 2)) el in omega arith)
      (record {
        used = λ j. elim (cases_eq j (spot.place / 8)) [
          | inl same ↦
              let p : 8 * j ≡ spot.place = omega arith in
              ap (bit USED mid) same ∙ b.here
              ∙ omega (arith, used_at-high (8 * j) 16 r.front (omega arith), used_at-low (8 * j) upper f.after (omega arith))
          | inr apart ↦ omega (arith, b.same j apart, i.used j, used_is (8 * j), once_apart (8 * j) spot.place (omega arith))
        ];
        holes = λ j off beside. b.other HOLES j (omega arith) (omega arith) ∙ i.holes j ∙ hole_is (8 * j) off;
      }) n

-- ---- claims
pub hole_even : (at : ℕ) (h : Heap) (t : ℕ) (gap : Gap) → FoundHole at h t gap → IsTidy false h.segments → gap.place % 8 ≡ 0
hole_even at h t gap f tidy =
    let p = f.place_is in
    omega (arith, units-total f.before (units-append f.before (Hole gap.size ∷ f.after) (subst HasUnits f.is (units_of false h.segments tidy))).0)

module _ (at : ℕ) (h : Heap) (t : ℕ) (gap : Gap) (f : FoundHole at h t gap) (bs : List ℕ) (et : t ≡ 4 + length bs) (tidy : IsTidy false h.segments) where
  pub fill_index : (old one mid new : List ℕ) (base' : ℕ) → IsIndex old h → Became USED (gap.place / 8) 1 old one → Became HOLES (gap.place / 8) 0 one mid
      → Settled mid new (gap.place + t) (gap.place + gap.size) base'
      → length new ≡ length old → base' ≡ base (placed_block bs h).heap → IsIndex new (placed_block bs h).heap
  fill_index old one mid new base' i b c n el eb =
      let place = f.place_is in
      let fits = f.fits in
      let low = gap.place + t in
      let upper = gap.place + gap.size in
      let front = f.before ++ Used bs ∷ [] in
      let sums = total-append f.before (Used bs ∷ []) in
      let behind = tidy_behind_hole false f.before gap.size f.after (subst (IsTidy false) f.is tidy) in
      let rooms = HasRoom-append f.before (Hole gap.size ∷ f.after) (HasRoom-from_tidy false (f.before ++ Hole gap.size ∷ f.after)
      (subst (IsTidy false) f.is tidy)) in
      let big = rooms.1.0 in
      let even = hole_even at h t gap f tidy in
      let done = placed_found at h t gap f bs et in
      let segments_are : (placed_block bs h).heap.segments ≡ front ++ with_hole (upper - low) f.after =
      ap (λ (p : Placed). p.heap.segments) done
      ∙ ap (λ n. f.before ++ Used bs ∷ with_hole n f.after) (let e : gap.size - (4 + length bs) ≡ upper - low = omega arith in e)
      ∙ sym (append_assoc f.before (Used bs ∷ []) (with_hole (upper - low) f.after)) in
      let p8 : 8 * (gap.place / 8) ≡ gap.place = omega arith in
      let used_is : (p : ℕ) → used_at p 16 h.segments ≡ used_at p 16 f.before + used_at p upper f.after =
      λ p. ap (used_at p 16) f.is ∙ used_at-append p 16 f.before (Hole gap.size ∷ f.after)
      ∙ ap (λ q. used_at p 16 f.before + used_at p (q + gap.size) f.after) (sym place) in
      let hole_is : (p : ℕ) → hole_at p 16 h.segments ≡ hole_at p 16 f.before + (once p gap.place + hole_at p upper f.after) =
      λ p. ap (hole_at p 16) f.is ∙ hole_at-append p 16 f.before (Hole gap.size ∷ f.after)
      ∙ ap (λ q. hole_at p 16 f.before + (once p q + hole_at p (q + gap.size) f.after)) (sym place) in
      let front_used : (p : ℕ) → used_at p 16 front ≡ used_at p 16 f.before + once p gap.place =
      λ p. used_at-append p 16 f.before (Used bs ∷ []) ∙ omega (arith, ap (once p) place) in
      let front_hole : (p : ℕ) → hole_at p 16 front ≡ hole_at p 16 f.before = λ p. omega (arith, hole_at-append p 16 f.before (Used bs ∷ [])) in
      let long = i.long in
      settled mid new (placed_block bs h).heap front f.after low upper base' segments_are (omega arith) (omega arith) (λ z. behind.1)
      (HasRoom-join f.before (Used bs ∷ []) rooms.0 tt) rooms.1.1 eb
      (let en : (placed_block bs h).heap.end ≡ h.end = ap (λ (p : Placed). p.heap.end) done in let half = ap (λ x. 512 * (x / 2)) el in omega arith)
      (record {
        used = λ j. c.other USED j (omega arith) (omega arith) ∙ elim (cases_eq j (gap.place / 8)) [
          | inl same ↦
              let p : 8 * j ≡ gap.place = omega arith in
              ap (bit USED one) same ∙ b.here
              ∙ omega (
                arith,
                front_used (8 * j),
                once_same (8 * j) gap.place p,
                used_at-high (8 * j) 16 f.before (omega arith),
                used_at-low (8 * j) upper f.after (omega arith),
              )
          | inr apart ↦ omega (arith, b.same j apart, i.used j, used_is (8 * j), front_used (8 * j), once_apart (8 * j) gap.place (omega arith))
        ];
        holes = λ j off beside. elim (cases_eq j (gap.place / 8)) [
          | inl same ↦
              let p : 8 * j ≡ gap.place = omega arith in
              ap (bit HOLES mid) same ∙ c.here
              ∙ omega (arith, front_hole (8 * j), hole_at-high (8 * j) 16 f.before rooms.0 (omega arith), hole_at-low (8 * j) upper f.after (omega arith))
          | inr apart ↦
              omega (
                arith,
                c.same j apart,
                b.other HOLES j (omega arith) (omega arith),
                i.holes j,
                hole_is (8 * j),
                front_hole (8 * j),
                once_apart (8 * j) gap.place (omega arith),
              )
        ];
      }) n

module _ (at : ℕ) (h : Heap) (t : ℕ) (none : hole_for t h.segments ≡ None) (bs : List ℕ) (et : t ≡ 4 + length bs) (tidy : IsTidy false h.segments) where
  pub base_even : base h % 8 ≡ 0
  base_even = omega (arith, units-total h.segments (units_of false h.segments tidy))

  pub append_index : (old new : List ℕ) → IsIndex old h → Became USED (base h / 8) 1 old new → length new ≡ length old → IsIndex new (placed_block bs h).heap
  append_index old new i b el =
      let done = placed_none at h t none bs et in
      let e : (placed_block bs h).heap.segments ≡ h.segments ++ Used bs ∷ [] = ap (λ (p : Placed). p.heap.segments) done in
      let even = base_even in
      let used_is : (p : ℕ) → used_at p 16 (placed_block bs h).heap.segments ≡ used_at p 16 h.segments + once p (base h) =
      λ p. ap (used_at p 16) e ∙ used_at-append p 16 h.segments (Used bs ∷ []) ∙ omega arith in
      let hole_is : (p : ℕ) → hole_at p 16 (placed_block bs h).heap.segments ≡ hole_at p 16 h.segments =
      λ p. ap (hole_at p 16) e ∙ hole_at-append p 16 h.segments (Used bs ∷ []) ∙ omega arith in
      let long = i.long in
      record {
        long = (let en : (placed_block bs h).heap.end ≡ h.end = ap (λ (p : Placed). p.heap.end) done in let half = ap (λ x. 512 * (x / 2)) el in omega arith);
        used = λ j. elim (cases_eq j (base h / 8)) [
          | inl same ↦
              let p : 8 * j ≡ base h = omega arith in
              ap (bit USED new) same ∙ b.here ∙ omega (arith, used_is (8 * j), once_same (8 * j) (base h) p, used_at-high (8 * j) 16 h.segments (omega arith))
          | inr apart ↦ omega (arith, b.same j apart, i.used j, used_is (8 * j), once_apart (8 * j) (base h) (omega arith))
        ];
        holes = λ j. b.other HOLES j (omega arith) (omega arith) ∙ i.holes j ∙ sym (hole_is (8 * j));
      }

-- ---- blocks that get another size in their place
module _ (b : List ℕ) (at : ℕ) (h : Heap) (spot : Spot) (s : Spells b at h) (f : FoundBlock at h (spot.place + 4) spot) (t : ℕ) (least : 8 ≤ t) where
  abbrev passed : List Segment
  passed = f.reached.front ++ f.reached.gap

  abbrev now : List ℕ
  now = fitted (t - 4) f.bytes

  here_is : h.segments ≡ passed ++ Used f.bytes ∷ f.after
  here_is = f.reached.is ∙ ap (λ l. passed ++ l) f.rest_is

  passed_room : HasRoom passed
  passed_room = (HasRoom-append passed (Used f.bytes ∷ f.after) (HasRoom-from_tidy false (passed ++ Used f.bytes ∷ f.after)
      (subst (IsTidy false) here_is s.heap.tidy))).0

  behind_is : IsTidy false f.after
  behind_is = (tidy_behind_used false passed f.bytes f.after (subst (IsTidy false) here_is s.heap.tidy)).1

  long_now : 4 + length now ≡ t
  long_now = let n = length-fitted (t - 4) f.bytes in omega arith

  front_total : 16 + total size_of (passed ++ Used now ∷ []) ≡ spot.place + t
  front_total = let p = f.reached.place_is in let l = long_now in omega (arith, total-append passed (Used now ∷ []))

  used_front : (p : ℕ) → used_at p 16 (passed ++ Used now ∷ []) ≡ used_at p 16 passed + once p spot.place
  used_front p = used_at-append p 16 passed (Used now ∷ []) ∙ omega (arith, ap (once p) f.reached.place_is)

  hole_front : (p : ℕ) → hole_at p 16 (passed ++ Used now ∷ []) ≡ hole_at p 16 passed
  hole_front p = hole_at-append p 16 passed (Used now ∷ []) ∙ omega arith

  used_whole : (p : ℕ) → used_at p 16 h.segments ≡ used_at p 16 passed + (once p spot.place + used_at p (spot.place + spot.size) f.after)
  used_whole p = ap (used_at p 16) here_is ∙ used_at-append p 16 passed (Used f.bytes ∷ f.after)
      ∙ ap (λ q. used_at p 16 passed + (once p q + used_at p (q + (4 + length f.bytes)) f.after)) (sym f.reached.place_is)
      ∙ ap (λ n. used_at p 16 passed + (once p spot.place + used_at p (spot.place + n) f.after)) (sym f.size_is)

  hole_whole : (p : ℕ) → hole_at p 16 h.segments ≡ hole_at p 16 passed + hole_at p (spot.place + spot.size) f.after
  hole_whole p = ap (hole_at p 16) here_is ∙ hole_at-append p 16 passed (Used f.bytes ∷ f.after)
      ∙ ap (λ q. hole_at p 16 passed + hole_at p (q + (4 + length f.bytes)) f.after) (sym f.reached.place_is)
      ∙ ap (λ n. hole_at p 16 passed + hole_at p (spot.place + n) f.after) (sym f.size_is)

  -- which way it is
  shorter_of : (v : heap.Way) → WayFacts t (4 + length f.bytes) f.after h v → WayIs v way.Shrinks → t < 4 + length f.bytes
  shorter_of heap.Stays (if_stays _) k = elim k [ ]
  shorter_of heap.Shrinks (if_shrinks l) k = l
  shorter_of (heap.GrowsIntoHole n rest) (if_into _ _ _ _ _) k = elim k [ ]
  shorter_of heap.GrowsAtTop (if_top _ _) k = elim k [ ]
  shorter_of (heap.MovesToHole hole) (if_to_hole _ _ _) k = elim k [ ]
  shorter_of heap.MovesToTop (if_to_top _ _) k = elim k [ ]

  pub shrinks_shorter : WithBlock spot h (λ q. WayIs (way_to t q h) way.Shrinks) → t < spot.size
  shrinks_shorter w =
      let z = f.size_is in
      let l = shorter_of (way_to t (cut_of at h spot f) h) (way_facts t (cut_of at h spot f) h)
      (from_cut at h spot f (λ q. WayIs (way_to t q h) way.Shrinks) w) in
      omega arith

  -- a block that gets shorter
  pub shrink_index : (old new : List ℕ) (base' : ℕ) → t % 8 ≡ 0 → t < spot.size → IsIndex old h
      → Settled old new (spot.place + t) (spot.place + spot.size) base' → length new ≡ length old
      → base' ≡ base (resized_in t (cut_of at h spot f) h).heap → IsIndex new (resized_in t (cut_of at h spot f) h).heap
  shrink_index old new base' mult shorter i n el eb =
      let done = shrunk_is b at h spot s f t least mult shorter in
      let long = i.long in
      settled old new (resized_in t (cut_of at h spot f) h).heap (passed ++ Used now ∷ []) f.after (spot.place + t) (spot.place + spot.size) base'
      (ap (λ (k : Heap). k.segments) done) (sym front_total) (omega arith) (λ z. absurd (omega arith))
      (HasRoom-join passed (Used now ∷ []) passed_room tt) (HasRoom-from_tidy false f.after behind_is) eb
      (let en : (resized_in t (cut_of at h spot f) h).heap.end ≡ h.end = ap (λ (k : Heap). k.end) done in let half = ap (λ x. 512 * (x / 2)) el in omega arith)
      (record {
        used = λ j. omega (arith, i.used j, used_whole (8 * j), used_front (8 * j));
        holes = λ j off beside. omega (arith, i.holes j, hole_whole (8 * j), hole_front (8 * j));
      }) n

  -- a block that grows into the hole behind it
  pub widen_index : (old mid new : List ℕ) (base' room : ℕ) → t % 8 ≡ 0 → (w : IntoOf at h spot f t room (way_to t (cut_of at h spot f) h)) → IsIndex old h
      → Became HOLES ((spot.place + spot.size) / 8) 0 old mid
      → Settled mid new (spot.place + t) (spot.place + spot.size + room) base' → length new ≡ length old
      → base' ≡ base (resized_in t (cut_of at h spot f) h).heap → IsIndex new (resized_in t (cut_of at h spot f) h).heap
  widen_index old mid new base' room mult w i c n el eb =
      let done = widened_is b at h spot s f t mult room w in
      let size = f.size_is in
      let longer = w.longer in
      let fits = w.fits in
      let long = i.long in
      let even = place_even at h (spot.place + 4) spot s.heap.tidy f in
      let fm = f.multiple in
      let p = f.reached.place_is in
      let upper = spot.place + spot.size + room in
      let behind = tidy_behind_hole false [] room w.rest (subst (IsTidy false) w.after_is behind_is) in
      let hole_there : (p : ℕ) → hole_at p (spot.place + spot.size) f.after ≡ once p (spot.place + spot.size) + hole_at p upper w.rest =
      λ p. ap (hole_at p (spot.place + spot.size)) w.after_is in
      let used_there : (p : ℕ) → used_at p (spot.place + spot.size) f.after ≡ used_at p upper w.rest =
      λ p. ap (used_at p (spot.place + spot.size)) w.after_is in
      let least' = f.least in
      let room_is = (HasRoom-from_tidy false (Hole room ∷ w.rest) (subst (IsTidy false) w.after_is behind_is)) in
      let big = room_is.0 in
      settled mid new (resized_in t (cut_of at h spot f) h).heap (passed ++ Used now ∷ []) w.rest (spot.place + t) upper base'
      (ap (λ (k : Heap). k.segments) done) (sym front_total) (omega arith) (λ z. behind.1)
      (HasRoom-join passed (Used now ∷ []) passed_room tt) room_is.1 eb
      (let en : (resized_in t (cut_of at h spot f) h).heap.end ≡ h.end = ap (λ (k : Heap). k.end) done in let half = ap (λ x. 512 * (x / 2)) el in omega arith)
      (record {
        used = λ j. omega (arith, c.other USED j (omega arith) (omega arith), i.used j, used_whole (8 * j), used_front (8 * j), used_there (8 * j));
        holes = λ j off beside. elim (cases_eq j ((spot.place + spot.size) / 8)) [
          | inl same ↦
              let at_it : 8 * j ≡ spot.place + spot.size = omega arith in
              ap (bit HOLES mid) same ∙ c.here
              ∙ omega (
                arith,
                hole_front (8 * j),
                hole_at-high (8 * j) 16 passed passed_room (omega arith),
                hole_at-low (8 * j) upper w.rest (omega arith),
              )
          | inr apart ↦ omega (
            arith,
            c.same j apart,
            i.holes j,
            hole_whole (8 * j),
            hole_front (8 * j),
            hole_there (8 * j),
            once_apart (8 * j) (spot.place + spot.size) (omega arith),
          )
        ];
      }) n

  -- the last block grows
  pub raise_index : (old : List ℕ) → (w : TopOf at h spot f t (way_to t (cut_of at h spot f) h)) → IsIndex old h
      → IsIndex old (resized_in t (cut_of at h spot f) h).heap
  raise_index old w i =
      let done : (resized_in t (cut_of at h spot f) h).heap ≡ record { segments = passed ++ Used now ∷ []; end = h.end } =
      ap (λ (v : heap.Way). (resized_by v now (cut_of at h spot f) h).heap) w.way_is in
      let used_there : (p : ℕ) → used_at p (spot.place + spot.size) f.after ≡ 0 = λ p. ap (used_at p (spot.place + spot.size)) w.after_is in
      let hole_there : (p : ℕ) → hole_at p (spot.place + spot.size) f.after ≡ 0 = λ p. ap (hole_at p (spot.place + spot.size)) w.after_is in
      subst (IsIndex old) (sym done) (record {
        long = i.long;
        used = λ j. omega (arith, i.used j, used_whole (8 * j), used_front (8 * j), used_there (8 * j));
        holes = λ j. omega (arith, i.holes j, hole_whole (8 * j), hole_front (8 * j), hole_there (8 * j));
      })

-- ---- a block's bytes don't matter
pub other_bytes : (starts : List ℕ) (h : Heap) (t : ℕ) (bs cs : List ℕ) → t ≡ 4 + length bs → t ≡ 4 + length cs → IsIndex starts (placed_block bs h).heap
    → IsIndex starts (placed_block cs h).heap
other_bytes starts h t bs cs eb ec i =
    let p = placed_at h t in
    let one = p.is bs eb in
    let two = p.is cs ec in
    let long = i.long in
    let used_same : (k : ℕ) → used_at k 16 (p.front ++ Used bs ∷ p.rest) ≡ used_at k 16 (p.front ++ Used cs ∷ p.rest) =
    λ k. used_at-append k 16 p.front (Used bs ∷ p.rest)
    ∙ ap (λ n. used_at k 16 p.front + (once k (16 + total size_of p.front) + used_at k (16 + total size_of p.front + n) p.rest))
    (let e : 4 + length bs ≡ 4 + length cs = omega arith in e)
    ∙ sym (used_at-append k 16 p.front (Used cs ∷ p.rest)) in
    let hole_same : (k : ℕ) → hole_at k 16 (p.front ++ Used bs ∷ p.rest) ≡ hole_at k 16 (p.front ++ Used cs ∷ p.rest) =
    λ k. hole_at-append k 16 p.front (Used bs ∷ p.rest)
    ∙ ap (λ n. hole_at k 16 p.front + hole_at k (16 + total size_of p.front + n) p.rest) (let e : 4 + length bs ≡ 4 + length cs = omega arith in e)
    ∙ sym (hole_at-append k 16 p.front (Used cs ∷ p.rest)) in
    record {
      long = omega (arith, ap (λ (r : Placed). r.heap.end) one, ap (λ (r : Placed). r.heap.end) two);
      used = λ j. i.used j ∙ ap (λ (r : Placed). used_at (8 * j) 16 r.heap.segments) one ∙ used_same (8 * j)
          ∙ sym (ap (λ (r : Placed). used_at (8 * j) 16 r.heap.segments) two);
      holes = λ j. i.holes j ∙ ap (λ (r : Placed). hole_at (8 * j) 16 r.heap.segments) one ∙ hole_same (8 * j)
          ∙ sym (ap (λ (r : Placed). hole_at (8 * j) 16 r.heap.segments) two);
    }
