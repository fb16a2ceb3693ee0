-- A block that gets another size in its place.
use Rattle.rh_heap.proofs.Common.{◌≡◌, ℕ, ◌+◌, ◌-◌, ◌%◌, ◌<◌, ◌≤◌, false, true, List, [], ◌∷◌, ◌++◌, length, take, replicate, refl, sym, ap, subst, ◌∙◌}
use Rattle.rh_heap.proofs.Common.{append_assoc, arith, length-append, length-take, append-nil, length-replicate, word, part, SameOutside, total, Segment}
use Rattle.rh_heap.proofs.Common.{Used, Hole, Heap, IsTidy, size_of, base, with_hole, fitted, way_to, resized_by, Stand, Spells, part_more, HasRoom, LinksTo}
use Rattle.rh_heap.proofs.Common.{length-part, HasRoom-from_tidy, HasRoom-append, total-append, tidy_behind_used, tidy_behind_hole, tidy_front, tidy_after}
use Rattle.rh_heap.proofs.Common.{Stand-split, opened, StretchBetween, IsStretch, Settles, FoundBlock, WayIs, into_hole, WithBlock, resized_in, Stretch, Spot}
use Rattle.std.proofs.lemmas.List.{take_all, take-append-le}
use Rattle.rh_defs.specs.Heap.{joined}
use Rattle.rh_defs.specs.Heap as heap
use Rattle.rh_defs.proofs.HeapLists.{tidy_other, joined-tidy, joined-front}
use Rattle.rh_heap.specs.declared.span.resize.ResizeWay.TheVariants as way
use Rattle.rh_heap.proofs.StretchLaws.{is_stretch}
use Rattle.rh_heap.proofs.FillLaws.{filled_between, topped, part_above}
use Rattle.rh_heap.proofs.WayLaws.{cut_of, at_cut, from_cut, found_is, WayFacts, if_stays, if_shrinks, if_into, if_top, if_to_hole, if_to_top, way_facts}
use Rattle.rh_heap.proofs.WayLaws.{way_shrinks, block_stretch, block_part, block_base}

-- ---- bytes
pub length-fitted : (n : ℕ) (bs : List ℕ) → length (fitted n bs) ≡ n
length-fitted n bs = omega (arith, length-append {A = ℕ}, length-take {A = ℕ}, length-replicate {A = ℕ} (n - length bs) 0)

pub fitted_short : (n : ℕ) (bs : List ℕ) → n ≤ length bs → fitted n bs ≡ take n bs
fitted_short n bs h = ap (λ k. take n bs ++ replicate k 0) (let z : n - length bs ≡ 0 = omega arith in z) ∙ append-nil (take n bs)

pub fitted_long : (n : ℕ) (bs : List ℕ) → length bs ≤ n → fitted n bs ≡ bs ++ replicate (n - length bs) 0
fitted_long n bs h = ap (λ l. l ++ replicate (n - length bs) 0) (take_all n bs h)

part_take : (b : List ℕ) (p n m : ℕ) → n ≤ m → part b p n ≡ take n (part b p m)
part_take b p n m h =
    let whole : part b p m ≡ part b p n ++ part b (p + n) (m - n) = ap (part b p) (let e : m ≡ n + (m - n) = omega arith in e) ∙ part_more b p n (m - n) in
    sym (ap (take n) whole ∙ take-append-le n (part b p n) (part b (p + n) (m - n)) (omega (arith, length-part b p n))
    ∙ take_all n (part b p n) (omega (arith, length-part b p n)))

-- what it takes to grow into a hole
pub record IntoOf (at : ℕ) (h : Heap) (spot : Spot) (f : FoundBlock at h (spot.place + 4) spot) (t room : ℕ) (v : heap.Way) : Type 0 where
  pub rest : List Segment
  pub after_is : f.after ≡ Hole room ∷ rest
  pub longer : 4 + length f.bytes < t
  pub fits : t ≤ 4 + length f.bytes + room
  pub way_is : v ≡ heap.GrowsIntoHole room rest

pub record WidenBounds (h : Heap) (spot : Spot) (t room : ℕ) : Type 0 where
  pub inside : spot.place + spot.size + room ≤ base h
  pub least : 8 ≤ room
  pub fits : t ≤ spot.size + room
  pub longer : spot.size < t

pub record TopOf (at : ℕ) (h : Heap) (spot : Spot) (f : FoundBlock at h (spot.place + 4) spot) (t : ℕ) (v : heap.Way) : Type 0 where
  pub after_is : f.after ≡ []
  pub longer : 4 + length f.bytes < t
  pub way_is : v ≡ heap.GrowsAtTop

module _ (b : List ℕ) (at : ℕ) (h : Heap) (spot : Spot) (s : Spells b at h) (f : FoundBlock at h (spot.place + 4) spot) (t : ℕ) where
  abbrev passed : List Segment
  passed = f.reached.front ++ f.reached.gap

  abbrev now : List ℕ
  now = fitted (t - 4) f.bytes

  now_long : 8 ≤ t → t ≡ 4 + length now
  now_long l = let n = length-fitted (t - 4) f.bytes in omega arith

  tidy_block : IsTidy false (passed ++ Used f.bytes ∷ f.after)
  tidy_block = subst (IsTidy false) (found_is at h spot f) s.heap.tidy

  tidy_now : 8 ≤ t → t % 8 ≡ 0 → IsTidy false (passed ++ Used now ∷ [])
  tidy_now l m =
      tidy_front false passed now f.after (tidy_other false passed f.bytes now f.after (let z : 4 + length now ≡ t = sym (now_long l) in rw z m) tidy_block)

  -- ---- the upper bytes become a hole
  module _ (least : 8 ≤ t) (mult : t % 8 ≡ 0) (shorter : t < spot.size) where
    kept_part : (c : List ℕ) → SameOutside b c (at + spot.place) (at + spot.place + 4) → part c (at + spot.place + 4) (length now) ≡ now
    kept_part c o =
        let n = length-fitted (t - 4) f.bytes in
        let z = f.size_is in
        ap (part c (at + spot.place + 4)) n
        ∙ part_above o (at + spot.place + 4) (t - 4) (omega arith)
        ∙ part_take b (at + spot.place + 4) (t - 4) (length f.bytes) (omega arith)
        ∙ ap (take (t - 4)) (block_part b at h spot s f)
        ∙ sym (fitted_short (t - 4) f.bytes (omega arith))

    pub shrink_between : (c : List ℕ) (next : ℕ) → LinksTo b at (at + spot.from) next → SameOutside b c (at + spot.place) (at + spot.place + 4)
        → word c (at + spot.place) ≡ t
        → StretchBetween c at h.end (passed ++ Used now ∷ []) f.after (record
        { link = spot.from; low = spot.place + t; next = next; upper = spot.place + spot.size })
    shrink_between c next k o sized =
        let z = f.size_is in
        let m = f.multiple in
        let wide : SameOutside b c (at + spot.place) (at + spot.place + t) = record { len = o.len; below = o.below; above = λ i u. o.above i (omega arith) } in
        filled_between b c at h.end passed f.after spot.from spot.place next (spot.place + spot.size) t now (block_stretch b at h spot s f next k)
        (block_base b at h spot s f) wide (now_long least)
        sized (kept_part c o) (omega arith) (omega arith) (tidy_now least mult) (tidy_behind_used false passed f.bytes f.after tidy_block).1

    pub shrink_is_stretch : (c : List ℕ) (next : ℕ) → LinksTo b at (at + spot.from) next → SameOutside b c (at + spot.place) (at + spot.place + 4)
        → word c (at + spot.place) ≡ t → IsStretch c at (record { link = spot.from; low = spot.place + t; next = next; upper = spot.place + spot.size })
    shrink_is_stretch c next k o sized = is_stretch c at h.end (passed ++ Used now ∷ []) f.after
        (record { link = spot.from; low = spot.place + t; next = next; upper = spot.place + spot.size }) (shrink_between c next k o sized)

    pub shrunk_is : (resized_in t
        (cut_of at h spot f) h).heap ≡ record
        { segments = (passed ++ Used now ∷ []) ++ with_hole (spot.place + spot.size - (spot.place + t)) f.after; end = h.end }
    shrunk_is =
        let z = f.size_is in
        let n = now_long least in
        let size = 4 + length f.bytes - (4 + length now) in
        let behind = (tidy_behind_used false passed f.bytes f.after tidy_block).1 in
        ap (λ (w : heap.Way). (resized_by w now (cut_of at h spot f) h).heap) (way_shrinks t (cut_of at h spot f) h (omega arith))
        ∙ ap (λ (l : List Segment). let r : Heap = record { segments = l; end = h.end } in r)
        (ap joined (sym (append_assoc passed (Used now ∷ []) (Hole size ∷ f.after)))
        ∙ joined-front false (passed ++ Used now ∷ []) (Hole size ∷ f.after) (tidy_now least mult)
        ∙ ap (λ l. (passed ++ Used now ∷ []) ++ with_hole size l) (joined-tidy false f.after behind)
        ∙ ap (λ i. (passed ++ Used now ∷ []) ++ with_hole i f.after) (let e : size ≡ spot.place + spot.size - (spot.place + t) = omega arith in e))

    pub shrink_spells : (c d : List ℕ) (next : ℕ) → LinksTo b at (at + spot.from) next → SameOutside b c (at + spot.place) (at + spot.place + 4)
        → word c (at + spot.place) ≡ t
        → Settles c d at (record { link = spot.from; low = spot.place + t; next = next; upper = spot.place + spot.size })
        → WithBlock spot h (λ q. Spells d at (resized_in t q h).heap)
    shrink_spells c d next k o sized settles =
        at_cut at h spot f (λ q. Spells d at (resized_in t q h).heap) (subst (Spells d at) (sym shrunk_is)
        (settles h.end (passed ++ Used now ∷ []) f.after (shrink_between c next k o sized)))

  -- ---- the block takes the hole behind it
  into_facts : (room : ℕ) (v : heap.Way) → WayFacts t (4 + length f.bytes) f.after h v → WayIs v (way.IntoHole room) → IntoOf at h spot f t room v
  into_facts room heap.Stays (if_stays _) k = elim k [ ]
  into_facts room heap.Shrinks (if_shrinks _) k = elim k [ ]
  into_facts room (heap.GrowsIntoHole n rest) (if_into _ _ l e fit) (into_hole _ _) =
      record { rest = rest; after_is = e; longer = l; fits = fit; way_is = refl }
  into_facts room heap.GrowsAtTop (if_top _ _) k = elim k [ ]
  into_facts room (heap.MovesToHole hole) (if_to_hole _ _ _) k = elim k [ ]
  into_facts room heap.MovesToTop (if_to_top _ _) k = elim k [ ]

  pub into : (room : ℕ) → WithBlock spot h (λ q. WayIs (way_to t q h) (way.IntoHole room)) → IntoOf at h spot f t room (way_to t (cut_of at h spot f) h)
  into room w = into_facts room (way_to t (cut_of at h spot f) h) (way_facts t (cut_of at h spot f) h)
      (from_cut at h spot f (λ q. WayIs (way_to t q h) (way.IntoHole room)) w)

  -- the bytes of a longer block
  long_part : (c : List ℕ) → spot.size ≤ t
      → part c (at + spot.place + 4) (t - 4) ≡ part b (at + spot.place + 4) (spot.size - 4) ++ replicate (t - spot.size) 0
      → part c (at + spot.place + 4) (length now) ≡ now
  long_part c l e =
      let z = f.size_is in
      let n = length-fitted (t - 4) f.bytes in
      let long : spot.size - 4 ≡ length f.bytes = omega arith in
      ap (part c (at + spot.place + 4)) n ∙ e
      ∙ ap (λ k. part b (at + spot.place + 4) k ++ replicate (t - spot.size) 0) long
      ∙ ap (λ l. l ++ replicate (t - spot.size) 0) (block_part b at h spot s f)
      ∙ ap (λ k. f.bytes ++ replicate k 0) (let q : t - spot.size ≡ t - 4 - length f.bytes = omega arith in q)
      ∙ sym (fitted_long (t - 4) f.bytes (omega arith))

  module _ (mult : t % 8 ≡ 0) (room : ℕ) (i : IntoOf at h spot f t room (way_to t (cut_of at h spot f) h)) where
    abbrev grown_up : ℕ → Stretch
    grown_up next = record { link = spot.from; low = spot.place + t; next = next; upper = spot.place + spot.size + room }

    whole : h.segments ≡ passed ++ ((Used f.bytes ∷ Hole room ∷ []) ++ i.rest)
    whole = found_is at h spot f ∙ ap (λ l. passed ++ Used f.bytes ∷ l) i.after_is

    tidy_rest : (room % 8 ≡ 0) × IsTidy true i.rest
    tidy_rest = tidy_behind_hole false (passed ++ Used f.bytes ∷ []) room i.rest
        (subst (IsTidy false) (whole ∙ sym (append_assoc passed (Used f.bytes ∷ []) (Hole room ∷ i.rest))) s.heap.tidy)

    pub widen_even : room % 8 ≡ 0
    widen_even = tidy_rest.0

    pub hole_inside : spot.place + spot.size + room ≤ base h
    hole_inside =
        let p = f.reached.place_is in
        let z = f.size_is in
        omega (arith, ap (total size_of) whole, total-append passed (Used f.bytes ∷ Hole room ∷ i.rest))

    pub widen_bounds : WidenBounds h spot t room
    widen_bounds =
        let z = f.size_is in
        let l = i.longer in
        let fit = i.fits in
        let big = (HasRoom-append (passed ++ Used f.bytes ∷ []) (Hole room ∷ i.rest)
        (subst HasRoom (whole ∙ sym (append_assoc passed (Used f.bytes ∷ []) (Hole room ∷ i.rest)))
        (HasRoom-from_tidy false h.segments s.heap.tidy))).1.0 in
        record { inside = hole_inside; least = big; fits = omega arith; longer = omega arith }

    widen_between : (c : List ℕ) (next : ℕ) → LinksTo b at (at + (spot.place + spot.size)) next → SameOutside b c (at + spot.place) (at + spot.place + t)
        → word c (at + spot.place) ≡ t
        → part c (at + spot.place + 4) (t - 4) ≡ part b (at + spot.place + 4) (spot.size - 4) ++ replicate (t - spot.size) 0
        → StretchBetween c at h.end (passed ++ Used now ∷ []) i.rest (grown_up next)
    widen_between c next k o sized block =
        let p = f.reached.place_is in
        let z = f.size_is in
        let least = f.least in
        let l = i.longer in
        let fit = i.fits in
        let m = tidy_rest.0 in
        let fm = f.multiple in
        let e = s.base in
        let here : at + (spot.place + spot.size) ≡ at + spot.place + (4 + length f.bytes) = omega arith in
        let has = opened b at h passed (Used f.bytes ∷ Hole room ∷ []) i.rest (at + spot.from) (at + spot.place) next (at + (spot.place + spot.size + room))
        s whole f.reached.from_is (omega arith) (omega arith)
        (subst (λ q. LinksTo b at q next) here k) in
        filled_between b c at h.end passed i.rest spot.from spot.place next (spot.place + spot.size + room) t now has
        (omega (arith, ap (total size_of) whole, total-append passed (Used f.bytes ∷ Hole room ∷ i.rest))) o (now_long (omega arith)) sized
        (long_part c (omega arith) block) (omega arith) (omega arith)
        (tidy_now (omega arith) mult) (tidy_after i.rest tidy_rest.1)

    pub widen_is_stretch : (c : List ℕ) (next : ℕ) → LinksTo b at (at + (spot.place + spot.size)) next
        → SameOutside b c (at + spot.place) (at + spot.place + t) → word c (at + spot.place) ≡ t
        → part c (at + spot.place + 4) (t - 4) ≡ part b (at + spot.place + 4) (spot.size - 4) ++ replicate (t - spot.size) 0 → IsStretch c at (grown_up next)
    widen_is_stretch c next k o sized block = is_stretch c at h.end (passed ++ Used now ∷ []) i.rest (grown_up next) (widen_between c next k o sized block)

    pub widened_is : (resized_in t (cut_of at h spot f) h).heap ≡ record
        { segments = (passed ++ Used now ∷ []) ++ with_hole (spot.place + spot.size + room - (spot.place + t)) i.rest; end = h.end }
    widened_is =
        let z = f.size_is in
        let least = f.least in
        let l = i.longer in
        let n = now_long (omega arith) in
        ap (λ (w : heap.Way). (resized_by w now (cut_of at h spot f) h).heap) i.way_is
        ∙ ap (λ (l : List Segment). let r : Heap = record { segments = l; end = h.end } in r)
        (sym (append_assoc passed (Used now ∷ []) (with_hole (4 + length f.bytes + room - (4 + length now)) i.rest))
        ∙ ap (λ k. (passed ++ Used now ∷ []) ++ with_hole k i.rest) (let e : 4 + length f.bytes + room - (4 + length now) ≡ spot.place + spot.size + room -
        (spot.place + t) = omega arith in e))

    pub widen_spells : (c d : List ℕ) (next : ℕ) → LinksTo b at (at + (spot.place + spot.size)) next
        → SameOutside b c (at + spot.place) (at + spot.place + t) → word c (at + spot.place) ≡ t
        → part c (at + spot.place + 4) (t - 4) ≡ part b (at + spot.place + 4) (spot.size - 4) ++ replicate (t - spot.size) 0 → Settles c d at (grown_up next)
        → WithBlock spot h (λ q. Spells d at (resized_in t q h).heap)
    widen_spells c d next k o sized block settles =
        at_cut at h spot f (λ q. Spells d at (resized_in t q h).heap) (subst (Spells d at) (sym widened_is)
        (settles h.end (passed ++ Used now ∷ []) i.rest (widen_between c next k o sized block)))

  -- ---- the last block grows
  top_facts : (v : heap.Way) → WayFacts t (4 + length f.bytes) f.after h v → WayIs v way.AtTop → TopOf at h spot f t v
  top_facts heap.Stays (if_stays _) k = elim k [ ]
  top_facts heap.Shrinks (if_shrinks _) k = elim k [ ]
  top_facts (heap.GrowsIntoHole n rest) (if_into _ _ _ _ _) k = elim k [ ]
  top_facts heap.GrowsAtTop (if_top l e) k = record { after_is = e; longer = l; way_is = refl }
  top_facts (heap.MovesToHole hole) (if_to_hole _ _ _) k = elim k [ ]
  top_facts heap.MovesToTop (if_to_top _ _) k = elim k [ ]

  pub top : WithBlock spot h (λ q. WayIs (way_to t q h) way.AtTop) → TopOf at h spot f t (way_to t (cut_of at h spot f) h)
  top w = top_facts (way_to t (cut_of at h spot f) h) (way_facts t (cut_of at h spot f) h) (from_cut at h spot f (λ q. WayIs (way_to t q h) way.AtTop) w)

  pub raise_spells : (c d : List ℕ) → t % 8 ≡ 0 → (i : TopOf at h spot f t (way_to t (cut_of at h spot f) h)) → spot.place + t ≤ h.end
      → SameOutside b c (at + spot.place) (at + spot.place + t) → word c (at + spot.place) ≡ t
      → part c (at + spot.place + 4) (t - 4) ≡ part b (at + spot.place + 4) (spot.size - 4) ++ replicate (t - spot.size) 0
      → SameOutside c d (at + 8) (at + 8 + 4) → word d (at + 8) ≡ spot.place + t → WithBlock spot h (λ q. Spells d at (resized_in t q h).heap)
  raise_spells c d mult i fit o sized block o2 based =
      let p = f.reached.place_is in
      let z = f.size_is in
      let least = f.least in
      let l = i.longer in
      let last : h.segments ≡ passed ++ Used f.bytes ∷ [] = found_is at h spot f ∙ ap (λ l. passed ++ Used f.bytes ∷ l) i.after_is in
      let parts = Stand-split b (at + 4) (at + 16) passed (Used f.bytes ∷ []) (subst (Stand b (at + 4) (at + 16)) last s.stand) in
      let ends : LinksTo b at (at + spot.from) 0 =
      record { none = λ _. ap (word b) f.reached.from_is ∙ parts.1.2; some = λ nz. absurd (nz refl); ahead = λ nz. absurd (nz refl) } in
      let has = opened b at h passed (Used f.bytes ∷ []) [] (at + spot.from) (at + spot.place) 0 (at + (spot.place + spot.size)) s last f.reached.from_is
      (omega arith) (omega arith) ends in
      at_cut at h spot f (λ q. Spells d at (resized_in t q h).heap)
      (subst (λ (w : heap.Way). Spells d at (resized_by w now (cut_of at h spot f) h).heap) (sym i.way_is)
      (topped b c d at h.end passed (at + spot.from) spot.place 0 (at + (spot.place + spot.size)) t (spot.place + t) now has ends o (now_long (omega arith))
      sized (long_part c (omega arith) block) o2 based refl fit (tidy_now (omega arith) mult)))
