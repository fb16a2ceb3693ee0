-- What a resize answers.
use Rattle.rh_heap.proofs.Common.{◌≡◌, ℕ, ◌+◌, ◌-◌, ◌<◌, ◌≤◌, ◌≢◌, eqb, refl, sym, ap, subst, ◌∙◌, arith, Some, None, Result, Ok, Err, ℤ, MatchResult, Memory}
use Rattle.rh_heap.proofs.Common.{Split, moved, Segment, Heap, Placed, way_to, resized_by, fitted, segment_size, shortage_in, hole_for, block_at, HeapRefusal}
use Rattle.rh_heap.proofs.Common.{cond_true, cond_false, eqb_same, eqb_apart, IsSpan, SpellsHeapIn, heap_in, FoundBlock, WayIs, WithBlock, resized_in, Span}
use Rattle.rh_heap.proofs.Common.{Spot}
use Rattle.rh_defs.specs.Heap.{new_size, resize_need, resized, resize_block, resize_found, need_at, need_found, as_granted}
use Rattle.rh_defs.specs.Heap as heap
use Rattle.rh_defs.specs.declared.heap.HeapRefusal.TheVariants.{NotABlock, BadSize, NoRoom}
use Rattle.rh_heap.specs.HeapCalls.{LeavesHeap}
use Rattle.rh_heap.specs.HeapSpans.{OnlySpan}
use Rattle.rh_heap.specs.HeapWays.{WayOf, SpellsResized, short_by, ShortBy}
use Rattle.rh_heap.specs.Inner.WayEnds.{Changed, NotChanged, Moved}
use Rattle.rh_heap.specs.declared.span.resize.ResizeWay.TheVariants as way
use Rattle.rh_heap.proofs.CallLaws.{leaves, refuses}
use Rattle.rh_heap.proofs.WayLaws.{cut_of, at_cut, from_cut, at_place}
use Rattle.rh_heap.proofs.MoveLaws.{short_stays, short_shrinks, short_into, short_top, short_moves, resized_moves, same_way, address_stays, address_shrinks}
use Rattle.rh_heap.proofs.MoveLaws.{address_into, address_top}

module _ (m n : Memory) (span : Span) (spot : Spot) (t : ℕ) (f : FoundBlock span.at (heap_in m span) (spot.place + 4) spot) where
  abbrev h : Heap
  h = heap_in m span

  abbrev here : Split Segment
  here = cut_of span.at h spot f

  changed : (address : ℕ) → short_by t here h ≡ 0 → address ≡ (resized_in t here h).address → SpellsResized m n span t spot
      → WithBlock spot h (Changed m n span t address)
  changed address room e k = at_cut span.at h spot f (Changed m n span t address)
      (record { room = room; address_is = e; spells = from_cut span.at h spot f (λ s. SpellsHeapIn n span (resized_in t s h).heap) k })

  pub changed_shrinks : WayOf t spot h way.Shrinks → SpellsResized m n span t spot → WithBlock spot h (Changed m n span t (spot.place + 4))
  changed_shrinks w k = changed (spot.place + 4) (short_shrinks span.at h spot f t w)
      (address_shrinks span.at h spot f t (way_to t here h) (from_cut span.at h spot f (λ q. WayIs (way_to t q h) way.Shrinks) w)) k

  pub changed_into : (room : ℕ) → WayOf t spot h (way.IntoHole room) → SpellsResized m n span t spot → WithBlock spot h (Changed m n span t (spot.place + 4))
  changed_into room w k = changed (spot.place + 4) (short_into span.at h spot f t room w)
      (address_into span.at h spot f t room (way_to t here h) (from_cut span.at h spot f (λ q. WayIs (way_to t q h) (way.IntoHole room)) w)) k

  pub changed_top : (end : ℕ) → end ≡ h.end → spot.place + t ≤ end → WayOf t spot h way.AtTop → SpellsResized m n span t spot
      → WithBlock spot h (Changed m n span t (spot.place + 4))
  changed_top end e fit w k = changed (spot.place + 4) (short_top span.at h spot f t w ∙ omega arith)
      (address_top span.at h spot f t (way_to t here h) (from_cut span.at h spot f (λ q. WayIs (way_to t q h) way.AtTop) w)) k

  pub changed_moves : (address : ℕ) → WayOf t spot h way.Moves → WithBlock spot h (Moved m n span t address (spot.place + 4))
      → WithBlock spot h (Changed m n span t address)
  changed_moves address w k =
      let v = from_cut span.at h spot f (Moved m n span t address (spot.place + 4)) k in
      let r = resized_moves span.at h spot f t w in
      at_cut span.at h spot f (Changed m n span t address) (record {
        room = short_moves span.at h spot f t w ∙ v.room;
        address_is = v.address_is ∙ sym (ap (λ (p : Placed). p.address) r);
        spells = subst (λ (p : Placed). SpellsHeapIn n span p.heap) (sym r) v.spells;
      })

  pub not_changed_top : (end : ℕ) → end ≡ h.end → end < spot.place + t → n ≡ m → WayOf t spot h way.AtTop → WithBlock spot h (NotChanged m n span t NoRoom)
  not_changed_top end e full same w = at_cut span.at h spot f (NotChanged m n span t NoRoom)
      (record { no_room = (let q = short_top span.at h spot f t w in omega arith); refusal_is = refl; same = same })

  pub not_changed_moves : WayOf t spot h way.Moves → shortage_in t h (hole_for t h.segments) ≢ 0 → n ≡ m → WithBlock spot h (NotChanged m n span t NoRoom)
  not_changed_moves w short same = at_cut span.at h spot f (NotChanged m n span t NoRoom)
      (record { no_room = λ z. short (sym (short_moves span.at h spot f t w) ∙ z); refusal_is = refl; same = same })

pub changed_stays : (m : Memory) (span : Span) (spot : Spot) (t : ℕ) → (f : FoundBlock span.at (heap_in m span) (spot.place + 4) spot)
    → SpellsHeapIn m span (heap_in m span) → WayOf t spot (heap_in m span) way.Stays → WithBlock spot (heap_in m span) (Changed m m span t (spot.place + 4))
changed_stays m span spot t f s w =
    let h = heap_in m span in
    let here = cut_of span.at h spot f in
    let k = from_cut span.at h spot f (λ q. WayIs (way_to t q h) way.Stays) w in
    at_cut span.at h spot f (Changed m m span t (spot.place + 4)) (record {
      room = short_stays span.at h spot f t w;
      address_is = address_stays span.at h spot f t (way_to t here h) k;
      spells = subst (λ (v : heap.Way). SpellsHeapIn m span (resized_by v (fitted (t - 4) f.bytes) here h).heap) (sym (same_way (way_to t here h) k)) s;
    })

-- ---- the shortage
module _ (at : ℕ) (h : Heap) (spot : Spot) (t : ℕ) (f : FoundBlock at h (spot.place + 4) spot) where
  pub is_short : (n : ℕ) → n ≡ short_by t (cut_of at h spot f) h → WithBlock spot h (ShortBy h t n)
  is_short n e = at_cut at h spot f (ShortBy h t n) e

  pub short_of_stays : WayOf t spot h way.Stays → WithBlock spot h (ShortBy h t 0)
  short_of_stays w = is_short 0 (sym (short_stays at h spot f t w))

  pub short_of_shrinks : WayOf t spot h way.Shrinks → WithBlock spot h (ShortBy h t 0)
  short_of_shrinks w = is_short 0 (sym (short_shrinks at h spot f t w))

  pub short_of_into : (room : ℕ) → WayOf t spot h (way.IntoHole room) → WithBlock spot h (ShortBy h t 0)
  short_of_into room w = is_short 0 (sym (short_into at h spot f t room w))

  pub short_of_top : (end n : ℕ) → end ≡ h.end → n ≡ spot.place + t - end → WayOf t spot h way.AtTop → WithBlock spot h (ShortBy h t n)
  short_of_top end n e en w = is_short n (en ∙ ap (λ i. spot.place + t - i) e ∙ sym (short_top at h spot f t w))

  pub short_of_moves : (n : ℕ) → n ≡ shortage_in t h (hole_for t h.segments) → WayOf t spot h way.Moves → WithBlock spot h (ShortBy h t n)
  short_of_moves n e w = is_short n (e ∙ sym (short_moves at h spot f t w))

-- ---- the calls
module _ (delta : ℤ) (s : Split Segment) (h : Heap) (n : ℕ) (en : n ≡ new_size delta s) where
  found_zero : n ≡ 0 → resize_found delta (Some s) h ≡ Err BadSize
  found_zero z = cond_true (eqb (new_size delta s) 0) _ _ (eqb_same (new_size delta s) 0 (sym en ∙ z))

  found_done : n ≢ 0 → short_by (segment_size n) s h ≡ 0 → resize_found delta (Some s) h ≡ Ok (as_granted (resized_in (segment_size n) s h))
  found_done nz e = cond_false (eqb (new_size delta s) 0) _ _ (eqb_apart (new_size delta s) 0 (λ z. nz (en ∙ z)))
      ∙ cond_true (eqb (resize_need (new_size delta s) s h) 0) _ _ (eqb_same (resize_need (new_size delta s) s h) 0 (ap (λ i. resize_need i s h) (sym en) ∙ e))
      ∙ ap (λ i. Ok (as_granted (resized i s h h))) (sym en)

  found_full : n ≢ 0 → short_by (segment_size n) s h ≢ 0 → resize_found delta (Some s) h ≡ Err NoRoom
  found_full nz e = cond_false (eqb (new_size delta s) 0) _ _ (eqb_apart (new_size delta s) 0 (λ z. nz (en ∙ z)))
      ∙ cond_false (eqb (resize_need (new_size delta s) s h) 0) _ _ (eqb_apart (resize_need (new_size delta s) s h) 0
      (λ z. e (ap (λ i. resize_need i s h) en ∙ z)))

  need_zero : n ≡ 0 → need_found delta (Some s) h ≡ Err BadSize
  need_zero z = cond_true (eqb (new_size delta s) 0) _ _ (eqb_same (new_size delta s) 0 (sym en ∙ z))

  need_some : n ≢ 0 → need_found delta (Some s) h ≡ Ok (short_by (segment_size n) s h)
  need_some nz = cond_false (eqb (new_size delta s) 0) _ _ (eqb_apart (new_size delta s) 0 (λ z. nz (en ∙ z))) ∙ ap (λ i. Ok (resize_need i s h)) (sym en)

pub no_block_resize : (address : ℕ) (delta : ℤ) (h : Heap) → block_at address h ≡ None → resize_block address delta h ≡ Err NotABlock
no_block_resize address delta h e = ap (λ o. resize_found delta o h) e

module _ (at : ℕ) (h : Heap) (address : ℕ) (spot : Spot) (f : FoundBlock at h address spot) (delta : ℤ) (n : ℕ) (en : n ≡ moved (spot.size - 4) delta) where
  abbrev s : Split Segment
  s = cut_of at h spot (at_place f)

  found_s : block_at address h ≡ Some s
  found_s = ap (λ a. block_at a h) (sym f.address_is) ∙ (at_place f).found

  size_s : n ≡ new_size delta s
  size_s = let z = (at_place f).size_is in en ∙ ap (λ i. moved i delta) (omega arith)

  pub resize_zero : n ≡ 0 → resize_block address delta h ≡ Err BadSize
  resize_zero z = ap (λ o. resize_found delta o h) found_s ∙ found_zero delta s h n size_s z

  pub need_is_zero : n ≡ 0 → need_at address delta h ≡ Err BadSize
  need_is_zero z = ap (λ o. need_found delta o h) found_s ∙ need_zero delta s h n size_s z

  pub need_is : (t k : ℕ) → n ≢ 0 → t ≡ segment_size n → WithBlock spot h (ShortBy h t k) → Ok k ≡ need_at address delta h
  need_is t k nz et w =
      ap Ok (from_cut at h spot (at_place f) (ShortBy h t k) w ∙ ap (λ i. short_by i s h) et)
      ∙ sym (ap (λ o. need_found delta o h) found_s ∙ need_some delta s h n size_s nz)

  pub resize_done : (t : ℕ) → n ≢ 0 → t ≡ segment_size n → short_by t s h ≡ 0 → resize_block address delta h ≡ Ok (as_granted (resized_in t s h))
  resize_done t nz et e =
      ap (λ o. resize_found delta o h) found_s ∙ found_done delta s h n size_s nz (ap (λ i. short_by i s h) (sym et) ∙ e)
      ∙ ap (λ i. Ok (as_granted (resized_in i s h))) (sym et)

  pub resize_full : (t : ℕ) → n ≢ 0 → t ≡ segment_size n → short_by t s h ≢ 0 → resize_block address delta h ≡ Err NoRoom
  resize_full t nz et e = ap (λ o. resize_found delta o h) found_s ∙ found_full delta s h n size_s nz (λ z. e (ap (λ i. short_by i s h) et ∙ z))

module _ (m k : Memory) (span : Span) (address : ℕ) (spot : Spot) (f : FoundBlock span.at (heap_in m span) address spot) (delta : ℤ) (n : ℕ)
    (en : n ≡ moved (spot.size - 4) delta) (t : ℕ) (nz : n ≢ 0) (et : t ≡ segment_size n) (s0 : IsSpan m span)
    (only : OnlySpan m k span) where
  -- what the code's answer says of the call
  pub answered : (r : Result ℕ HeapRefusal)
      → MatchResult r (λ a. WithBlock spot (heap_in m span) (Changed m k span t a))
      (λ refusal. WithBlock spot (heap_in m span) (NotChanged m k span t refusal))
      → LeavesHeap m k span (resize_block address delta (heap_in m span)) r
  answered (Ok a) w =
      let h = heap_in m span in
      let v = from_cut span.at h spot (at_place f) (Changed m k span t a) w in
      let g = resized_in t (cut_of span.at h spot (at_place f)) h in
      leaves m k span (resize_block address delta h) g.heap a (resize_done span.at h address spot f delta n en t nz et v.room
      ∙ ap (λ i. Ok (g.heap, i)) (sym v.address_is)) v.spells only
  answered (Err refusal) w =
      let h = heap_in m span in
      let v = from_cut span.at h spot (at_place f) (NotChanged m k span t refusal) w in
      refuses m k span (resize_block address delta h) refusal (resize_full span.at h address spot f delta n en t nz et v.no_room ∙ ap Err (sym v.refusal_is))
      v.same s0
