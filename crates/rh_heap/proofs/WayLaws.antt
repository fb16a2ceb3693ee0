-- The ways in which a block gets another size.
use Rattle.rh_heap.proofs.Common.{◌≡◌, ℕ, ◌+◌, ◌<◌, ◌≤◌, ◌≢◌, Bool, true, false, cond, eqb, leb, ltb, List, [], ◌∷◌, ◌++◌, length, refl, sym, ap, subst, ◌∙◌}
use Rattle.rh_heap.proofs.Common.{arith, Option, Some, None, IfSome, word, part, total, Split, Segment, Used, Hole, Heap, size_of, base}
use Rattle.rh_heap.proofs.Common.{hole_for, way_to, Stand, Spells, total-append, cond_true, cond_false, eqb_same, eqb_apart, leb_no, Stand-split, opened}
use Rattle.rh_heap.proofs.Common.{FoundBlock, FoundHole, WayIs, into_hole, WithBlock, Spot, Gap, HasRoom, Await, LinksTo, HasStretch}
use Rattle.std.proofs.lemmas.Bool.Decides.{nat_tests}
use Rattle.rh_defs.specs.Heap.{place_after, way_to_grow, way_beyond}
use Rattle.rh_defs.specs.Heap as heap
use Rattle.rh_defs.proofs.HeapLists.{leb_yes}
use Rattle.rh_heap.specs.HeapWays.{stays, shrinks, at_top, to_hole, to_top}
use Rattle.rh_heap.specs.declared.span.resize.ResizeWay.{ResizeWay}
use Rattle.rh_heap.specs.declared.span.resize.ResizeWay.TheVariants as way
use Rattle.rh_heap.proofs.StretchLaws.{next_range}

pub at_place : {at : ℕ} {h : Heap} {address : ℕ} {spot : Spot} → FoundBlock at h address spot → FoundBlock at h (spot.place + 4) spot
at_place {at} {h} {address} {spot} f = subst (λ a. FoundBlock at h a spot) (sym f.address_is) f

-- the block's cut
abbrev pub cut_of : (at : ℕ) (h : Heap) (spot : Spot) → FoundBlock at h (spot.place + 4) spot → Split Segment
cut_of at h spot f = record { before = f.reached.front ++ f.reached.gap; here = Used f.bytes; after = f.after }

module _ (at : ℕ) (h : Heap) (spot : Spot) (f : FoundBlock at h (spot.place + 4) spot) where
  pub at_cut : (P : Split Segment → Type 0) → P (cut_of at h spot f) → WithBlock spot h P
  at_cut P p = subst (λ o. IfSome o P) (sym f.found) p

  pub from_cut : (P : Split Segment → Type 0) → WithBlock spot h P → P (cut_of at h spot f)
  from_cut P w = subst (λ o. IfSome o P) f.found w

  pub found_is : h.segments ≡ (f.reached.front ++ f.reached.gap) ++ Used f.bytes ∷ f.after
  found_is = f.reached.is ∙ ap (λ l. (f.reached.front ++ f.reached.gap) ++ l) f.rest_is

lt_test : (x y : ℕ) → y ≤ x → ltb x y ≡ false
lt_test x y h = grind (arith, nat_tests)

lt_test_yes : (x y : ℕ) → x < y → ltb x y ≡ true
lt_test_yes x y h = grind (arith, nat_tests)

eq_of : (x y : ℕ) → eqb x y ≡ true → x ≡ y
eq_of x y e = grind (arith, nat_tests)

ne_of : (x y : ℕ) → eqb x y ≡ false → x ≢ y
ne_of x y e = grind (arith, nat_tests)

lt_of : (x y : ℕ) → ltb x y ≡ true → x < y
lt_of x y e = grind (arith, nat_tests)

ge_of : (x y : ℕ) → ltb x y ≡ false → y ≤ x
ge_of x y e = grind (arith, nat_tests)

le_of : (x y : ℕ) → leb x y ≡ true → x ≤ y
le_of x y e = grind (arith, nat_tests)

-- what a way rests on
pub data WayFacts (t size : ℕ) (after : List Segment) (h : Heap) : heap.Way → Type 0 where
  if_stays : t ≡ size → WayFacts t size after h heap.Stays
  if_shrinks : t < size → WayFacts t size after h heap.Shrinks
  if_into : (n : ℕ) (rest : List Segment) → size < t → after ≡ Hole n ∷ rest → t ≤ size + n → WayFacts t size after h (heap.GrowsIntoHole n rest)
  if_top : size < t → after ≡ [] → WayFacts t size after h heap.GrowsAtTop
  if_to_hole : (hole : Split Segment) → size < t → hole_for t h.segments ≡ Some hole → WayFacts t size after h (heap.MovesToHole hole)
  if_to_top : size < t → hole_for t h.segments ≡ None → WayFacts t size after h heap.MovesToTop

beyond_facts : (t size : ℕ) (after : List Segment) (h : Heap) → size < t → (o : Option (Split Segment)) → hole_for t h.segments ≡ o
    → WayFacts t size after h (way_beyond after o)
beyond_facts t size after h l (Some hole) e = if_to_hole hole l e
beyond_facts t size [] h l None e = if_top l refl
beyond_facts t size (g ∷ after) h l None e = if_to_top l e

grow_facts : (t : ℕ) (s : Split Segment) (after : List Segment) (h : Heap) → size_of s.here < t → WayFacts t (size_of s.here) after h (way_to_grow t s after h)
grow_facts t s [] h l =
    elim (leb (place_after s.before + t) h.end) as (λ b. WayFacts t (size_of s.here) [] h (cond b heap.GrowsAtTop (way_beyond [] (hole_for t h.segments)))) [
      | true ↦ if_top l refl
      | false ↦ beyond_facts t (size_of s.here) [] h l (hole_for t h.segments) refl
    ]
grow_facts t s (Used bs ∷ after) h l = beyond_facts t (size_of s.here) (Used bs ∷ after) h l (hole_for t h.segments) refl
grow_facts t s (Hole n ∷ after) h l = go (leb t (size_of s.here + n)) refl
  where
    go : (b : Bool) → leb t (size_of s.here + n) ≡ b
        → WayFacts t (size_of s.here) (Hole n ∷ after) h (cond b (heap.GrowsIntoHole n after) (way_beyond (Hole n ∷ after) (hole_for t h.segments)))
    go true e = if_into n after l refl (le_of t (size_of s.here + n) e)
    go false e = beyond_facts t (size_of s.here) (Hole n ∷ after) h l (hole_for t h.segments) refl

pub way_facts : (t : ℕ) (s : Split Segment) (h : Heap) → WayFacts t (size_of s.here) s.after h (way_to t s h)
way_facts t s h = go (eqb t (size_of s.here)) refl (ltb t (size_of s.here)) refl
  where
    go : (a : Bool) → eqb t (size_of s.here) ≡ a → (b : Bool) → ltb t (size_of s.here) ≡ b
        → WayFacts t (size_of s.here) s.after h (cond a heap.Stays (cond b heap.Shrinks (way_to_grow t s s.after h)))
    go true ea b eb = if_stays (eq_of t (size_of s.here) ea)
    go false ea true eb = if_shrinks (lt_of t (size_of s.here) eb)
    go false ea false eb = grow_facts t s s.after h (let ne = ne_of t (size_of s.here) ea in let ge = ge_of t (size_of s.here) eb in omega arith)

-- ---- which way it is
module _ (t : ℕ) (s : Split Segment) (h : Heap) where
  pub way_stays : t ≡ size_of s.here → way_to t s h ≡ heap.Stays
  way_stays e = cond_true (eqb t (size_of s.here)) _ _ (eqb_same t (size_of s.here) e)

  pub way_shrinks : t < size_of s.here → way_to t s h ≡ heap.Shrinks
  way_shrinks l = cond_false (eqb t (size_of s.here)) _ _ (eqb_apart t (size_of s.here) (omega arith))
      ∙ cond_true (ltb t (size_of s.here)) _ _ (lt_test_yes t (size_of s.here) l)

  pub way_grows : size_of s.here < t → way_to t s h ≡ way_to_grow t s s.after h
  way_grows l = cond_false (eqb t (size_of s.here)) _ _ (eqb_apart t (size_of s.here) (omega arith))
      ∙ cond_false (ltb t (size_of s.here)) _ _ (lt_test t (size_of s.here) (omega arith))

beyond_moves : (g : Segment) (after : List Segment) (o : Option (Split Segment)) → WayIs (way_beyond (g ∷ after) o) way.Moves
beyond_moves g after (Some hole) = to_hole hole
beyond_moves g after None = to_top

-- what stands behind a block
pub data Behind (b : List ℕ) (at : ℕ) (h : Heap) (next upper : ℕ) : List Segment → Type 0 where
  nothing : next ≢ upper → upper ≡ base h → Behind b at h next upper []
  a_used : (bs : List ℕ) (ys : List Segment) → next ≢ upper → upper < base h → Behind b at h next upper (Used bs ∷ ys)
  a_hole : (n : ℕ) (ys : List Segment) → next ≡ upper → word b (at + (upper + 4)) ≡ n → upper + 8 ≤ base h → Behind b at h next upper (Hole n ∷ ys)

module _ (b : List ℕ) (at : ℕ) (h : Heap) (spot : Spot) (s : Spells b at h) (f : FoundBlock at h (spot.place + 4) spot) where
  pub block_stretch : (next : ℕ) → LinksTo b at (at + spot.from) next
      → HasStretch b at h.end (f.reached.front ++ f.reached.gap) f.after (at + spot.from) (at + spot.place) next (at + (spot.place + spot.size))
  block_stretch next k =
      let p = f.reached.place_is in
      let z = f.size_is in
      opened b at h (f.reached.front ++ f.reached.gap) (Used f.bytes ∷ []) f.after (at + spot.from) (at + spot.place) next (at + (spot.place + spot.size)) s
      (found_is at h spot f) f.reached.from_is (omega arith) (omega arith) k

  pub block_part : part b (at + spot.place + 4) (length f.bytes) ≡ f.bytes
  block_part =
      let p = f.reached.place_is in
      let parts = Stand-split b (at + 4) (at + 16) (f.reached.front ++ f.reached.gap) (Used f.bytes ∷ f.after)
      (subst (Stand b (at + 4) (at + 16)) (found_is at h spot f) s.stand) in
      ap (λ i. part b i (length f.bytes)) (omega arith) ∙ parts.1.1

  pub block_base : word b (at + 8) ≡ spot.place + spot.size + total size_of f.after
  block_base =
      let p = f.reached.place_is in
      let z = f.size_is in
      let e = s.base in
      omega (arith, ap (total size_of) (found_is at h spot f), total-append (f.reached.front ++ f.reached.gap) (Used f.bytes ∷ f.after))

  behind_of : (next : ℕ) (after : List Segment) → f.after ≡ after → HasRoom after → Await b at next (at + (spot.place + spot.size)) after
      → Behind b at h next (spot.place + spot.size) after
  behind_of next [] e r w =
      let l = f.least in
      let eb = s.base in
      let bb = block_base in
      nothing (omega arith) (omega (arith, ap (total size_of) e))
  behind_of next (Used bs ∷ ys) e r w =
      let l = f.least in
      let eb = s.base in
      let bb = block_base in
      let ahead = next_range b at next (at + (spot.place + spot.size) + (4 + length bs)) ys r w.2 in
      a_used bs ys (λ q. let a = ahead (omega arith) in absurd (omega arith)) (omega (arith, ap (total size_of) e))
  behind_of next (Hole n ∷ ys) e r w =
      let eb = s.base in
      let bb = block_base in
      let here = w.0 in
      let big = r.0 in
      a_hole n ys (omega arith) (ap (word b) (omega arith) ∙ w.1) (omega (arith, ap (total size_of) e))

  pub behind : (next : ℕ) → LinksTo b at (at + spot.from) next → Behind b at h next (spot.place + spot.size) f.after
  behind next k = let st = block_stretch next k in behind_of next f.after refl st.room_behind st.tail

  -- the way that the code finds
  module _ (t : ℕ) where
    abbrev is_way : ResizeWay → Type 0
    is_way w = WithBlock spot h (λ s. WayIs (way_to t s h) w)

    pub finds_stays : t ≡ spot.size → is_way way.Stays
    finds_stays e = at_cut at h spot f (λ s. WayIs (way_to t s h) way.Stays)
        (subst (λ v. WayIs v way.Stays) (sym (way_stays t (cut_of at h spot f) h (e ∙ f.size_is))) stays)

    pub finds_shrinks : t < spot.size → is_way way.Shrinks
    finds_shrinks l = at_cut at h spot f (λ s. WayIs (way_to t s h) way.Shrinks)
        (subst (λ v. WayIs v way.Shrinks) (sym (way_shrinks t (cut_of at h spot f) h (let z = f.size_is in omega arith))) shrinks)

    grown : (w : ResizeWay) → spot.size < t → WayIs (way_to_grow t (cut_of at h spot f) f.after h) w → is_way w
    grown w l k = at_cut at h spot f (λ s. WayIs (way_to t s h) w) (subst (λ v. WayIs v w)
        (sym (way_grows t (cut_of at h spot f) h (let z = f.size_is in omega arith))) k)

    into_of : (next room : ℕ) (after : List Segment) → Behind b at h next (spot.place + spot.size) after → next ≡ spot.place + spot.size
        → room ≡ word b (at + (spot.place + spot.size + 4)) → t ≤ spot.size + room → WayIs (way_to_grow t (cut_of at h spot f) after h) (way.IntoHole room)
    into_of next room [] (nothing ne _) e er l = absurd (ne e)
    into_of next room (Used bs ∷ ys) (a_used _ _ ne _) e er l = absurd (ne e)
    into_of next room (Hole n ∷ ys) (a_hole _ _ _ read _) e er l =
        let z = f.size_is in
        let same : room ≡ n = er ∙ read in
        subst (λ v. WayIs v (way.IntoHole room)) (sym (cond_true (leb t (4 + length f.bytes + n)) _ _ (leb_yes t (4 + length f.bytes + n) (omega arith))))
        (subst (λ i. WayIs (heap.GrowsIntoHole n ys) (way.IntoHole i)) (sym same) (into_hole n ys))

    pub finds_into : (next room : ℕ) → spot.size < t → LinksTo b at (at + spot.from) next → next ≡ spot.place + spot.size
        → room ≡ word b (at + (spot.place + spot.size + 4)) → t ≤ spot.size + room → is_way (way.IntoHole room)
    finds_into next room g k e er l = grown (way.IntoHole room) g (into_of next room f.after (behind next k) e er l)

    small_of : (next room : ℕ) (after : List Segment) → Behind b at h next (spot.place + spot.size) after → next ≡ spot.place + spot.size
        → room ≡ word b (at + (spot.place + spot.size + 4)) → spot.size + room < t → WayIs (way_to_grow t (cut_of at h spot f) after h) way.Moves
    small_of next room [] (nothing ne _) e er l = absurd (ne e)
    small_of next room (Used bs ∷ ys) (a_used _ _ ne _) e er l = absurd (ne e)
    small_of next room (Hole n ∷ ys) (a_hole _ _ _ read _) e er l =
        let z = f.size_is in
        let same : room ≡ n = er ∙ read in
        subst (λ v. WayIs v way.Moves) (sym (cond_false (leb t (4 + length f.bytes + n)) _ _ (leb_no t (4 + length f.bytes + n) (omega arith))))
        (beyond_moves (Hole n) ys (hole_for t h.segments))

    pub finds_small : (next room : ℕ) → spot.size < t → LinksTo b at (at + spot.from) next → next ≡ spot.place + spot.size
        → room ≡ word b (at + (spot.place + spot.size + 4)) → spot.size + room < t → is_way way.Moves
    finds_small next room g k e er l = grown way.Moves g (small_of next room f.after (behind next k) e er l)

    used_of : (next : ℕ) (after : List Segment) → Behind b at h next (spot.place + spot.size) after → next ≢ spot.place + spot.size
        → spot.place + spot.size ≢ base h → WayIs (way_to_grow t (cut_of at h spot f) after h) way.Moves
    used_of next [] (nothing _ e) ne nb = absurd (nb e)
    used_of next (Used bs ∷ ys) (a_used _ _ _ _) ne nb = beyond_moves (Used bs) ys (hole_for t h.segments)
    used_of next (Hole n ∷ ys) (a_hole _ _ e _ _) ne nb = absurd (ne e)

    pub finds_used : (next top : ℕ) → spot.size < t → LinksTo b at (at + spot.from) next → next ≢ spot.place + spot.size → top ≡ word b (at + 8)
        → spot.place + spot.size ≢ top → is_way way.Moves
    finds_used next top g k ne et nb = grown way.Moves g (used_of next f.after (behind next k) ne (λ q. nb (q ∙ sym s.base ∙ sym et)))

    top_of : (next : ℕ) (after : List Segment) → Behind b at h next (spot.place + spot.size) after → next ≢ spot.place + spot.size
        → spot.place + spot.size ≡ base h → after ≡ []
    top_of next [] (nothing _ _) ne e = refl
    top_of next (Used bs ∷ ys) (a_used _ _ _ l) ne e = absurd (omega arith)
    top_of next (Hole n ∷ ys) (a_hole _ _ e' _ _) ne e = absurd (ne e')

    pub is_last : (next top : ℕ) → LinksTo b at (at + spot.from) next → next ≢ spot.place + spot.size → top ≡ word b (at + 8) → spot.place + spot.size ≡ top
        → f.after ≡ []
    is_last next top k ne et e = top_of next f.after (behind next k) ne (e ∙ et ∙ s.base)

    pub finds_top : (next top end : ℕ) → spot.size < t → LinksTo b at (at + spot.from) next → next ≢ spot.place + spot.size → top ≡ word b (at + 8)
        → spot.place + spot.size ≡ top → end ≡ word b (at + 12) → spot.place + t ≤ end → is_way way.AtTop
    finds_top next top end g k ne et e ee l =
        let last = s.last in
        let p = f.reached.place_is in
        grown way.AtTop g (subst (λ after. WayIs (way_to_grow t (cut_of at h spot f) after h) way.AtTop) (sym (is_last next top k ne et e))
        (subst (λ v. WayIs v way.AtTop) (sym (cond_true (leb (place_after (f.reached.front ++ f.reached.gap) + t) h.end) _ _
        (leb_yes (place_after (f.reached.front ++ f.reached.gap) + t) h.end (omega arith)))) at_top))

    full_at : (next top end : ℕ) → spot.size < t → LinksTo b at (at + spot.from) next → next ≢ spot.place + spot.size → top ≡ word b (at + 8)
        → spot.place + spot.size ≡ top → end ≡ word b (at + 12) → end < spot.place + t
        → (w : ResizeWay) (o : Option (Split Segment)) → hole_for t h.segments ≡ o → WayIs (way_beyond [] o) w → is_way w
    full_at next top end g k ne et e ee l w o eo kw =
        let last = s.last in
        let p = f.reached.place_is in
        grown w g (subst (λ after. WayIs (way_to_grow t (cut_of at h spot f) after h) w) (sym (is_last next top k ne et e))
        (subst (λ v. WayIs v w) (sym (cond_false (leb (place_after (f.reached.front ++ f.reached.gap) + t) h.end) _ _
        (leb_no (place_after (f.reached.front ++ f.reached.gap) + t) h.end (omega arith)) ∙ ap (way_beyond []) eo)) kw))

    pub finds_hole : (next top end : ℕ) → spot.size < t → LinksTo b at (at + spot.from) next → next ≢ spot.place + spot.size → top ≡ word b (at + 8)
        → spot.place + spot.size ≡ top → end ≡ word b (at + 12) → end < spot.place + t → (gap : Gap) → FoundHole at h t gap → is_way way.Moves
    finds_hole next top end g k ne et e ee l gap fh = full_at next top end g k ne et e ee l way.Moves _ fh.found (to_hole _)

    pub finds_none : (next top end : ℕ) → spot.size < t → LinksTo b at (at + spot.from) next → next ≢ spot.place + spot.size → top ≡ word b (at + 8)
        → spot.place + spot.size ≡ top → end ≡ word b (at + 12) → end < spot.place + t → hole_for t h.segments ≡ None → is_way way.AtTop
    finds_none next top end g k ne et e ee l none = full_at next top end g k ne et e ee l way.AtTop None none at_top

    pub room_read : (next : ℕ) → LinksTo b at (at + spot.from) next → next ≡ spot.place + spot.size → spot.place + spot.size + 8 ≤ base h
    room_read next k e = room_of f.after (behind next k)
      where
        room_of : (after : List Segment) → Behind b at h next (spot.place + spot.size) after → spot.place + spot.size + 8 ≤ base h
        room_of [] (nothing ne _) = absurd (ne e)
        room_of (Used bs ∷ ys) (a_used _ _ ne _) = absurd (ne e)
        room_of (Hole n ∷ ys) (a_hole _ _ _ _ r) = r
