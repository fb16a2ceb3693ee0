-- Heaps with their bytes renamed: each call does to the renamed heap the same.
use Rattle.rh_laws.proofs.Common.{◌≡◌, ℕ, zero, suc, ◌+◌, ◌-◌, Bool, true, false, cond, List, [], ◌∷◌, ◌++◌, length, map, refl, sym, ap, ◌∙◌, length-map}
use Rattle.rh_laws.proofs.Common.{map-append, Option, Some, None, ◌==◌, nat_le, nat_lt, ℤ, max, option_map, total, Split, zeros, moved, Segment, Used, Hole}
use Rattle.rh_laws.proofs.Common.{Heap, Placed, size_of, bytes_of, place_after, block_around, hole_for, is_hole_for, placed_in, need, segment_size, free_bytes}
use Rattle.rh_laws.proofs.Common.{block_room, raised, claim_growing, fitted, way_to, resize_need, resize_growing, new_size, hole_size, largest_hole, largest}
use Rattle.rh_defs.specs.Pieces.{is_inside}
use Rattle.rh_defs.specs.Heap.{Way, Stays, Shrinks, GrowsIntoHole, GrowsAtTop, MovesToHole, MovesToTop, block_at, is_block_at, is_around, with_hole, joined}
use Rattle.rh_defs.specs.Heap.{placed_block, shortage_in, released, release_block, release_found, way_beyond, way_to_grow, resized_by, end_for, resized}
use Rattle.rh_laws.specs.Renaming.{renamed_segment, renamed_heap}
use Rattle.rh_laws.proofs.RenamedParts.{total-map, cut_by, first_at-map, zeros-map, fitted-map}

-- a cut of a heap's segments with their bytes renamed
abbrev pub renamed_cut : (ℕ → ℕ) → Split Segment → Split Segment
renamed_cut f s = cut_by (renamed_segment f) s

-- a placed block with the heap's bytes renamed
abbrev pub renamed_placed : (ℕ → ℕ) → Placed → Placed
renamed_placed f p = record { heap = renamed_heap f p.heap; address = p.address }

-- a heap of segments up to an end, and a block in it
abbrev placed_at : List Segment → ℕ → ℕ → Placed
placed_at ss end address = record { heap = record { segments = ss; end = end }; address = address }

-- the same way on a renamed heap
abbrev pub renamed_way : (ℕ → ℕ) → Way → Way
renamed_way f Stays = Stays
renamed_way f Shrinks = Shrinks
renamed_way f (GrowsIntoHole size rest) = GrowsIntoHole size (map (renamed_segment f) rest)
renamed_way f GrowsAtTop = GrowsAtTop
renamed_way f (MovesToHole hole) = MovesToHole (renamed_cut f hole)
renamed_way f MovesToTop = MovesToTop

module _ (f : ℕ → ℕ) where
  abbrev one : Segment → Segment
  one g = renamed_segment f g

  pub size-renamed : (g : Segment) → size_of (renamed_segment f g) ≡ size_of g
  size-renamed (Used bytes) = ap (λ n. 4 + n) (length-map bytes f)
  size-renamed (Hole size) = refl

  pub room-renamed : (g : Segment) → length (bytes_of (renamed_segment f g)) ≡ length (bytes_of g)
  room-renamed (Used bytes) = length-map bytes f
  room-renamed (Hole size) = refl

  pub bytes-renamed : (g : Segment) → bytes_of (renamed_segment f g) ≡ map f (bytes_of g)
  bytes-renamed (Used bytes) = refl
  bytes-renamed (Hole size) = refl

  pub sum-renamed : (ss : List Segment) → total size_of (map (renamed_segment f) ss) ≡ total size_of ss
  sum-renamed ss = total-map size_of one size-renamed ss

  pub place-renamed : (ss : List Segment) → place_after (map (renamed_segment f) ss) ≡ place_after ss
  place-renamed ss = ap (λ n. place_after [] + n) (sum-renamed ss)

  is_block-renamed : (a p : ℕ) (g : Segment) → is_block_at a p (renamed_segment f g) ≡ is_block_at a p g
  is_block-renamed a p (Used bytes) = refl
  is_block-renamed a p (Hole size) = refl

  is_hole-renamed : (t p : ℕ) (g : Segment) → is_hole_for t p (renamed_segment f g) ≡ is_hole_for t p g
  is_hole-renamed t p (Used bytes) = refl
  is_hole-renamed t p (Hole size) = refl

  is_around-renamed : (x n p : ℕ) (g : Segment) → is_around x n p (renamed_segment f g) ≡ is_around x n p g
  is_around-renamed x n p (Used bytes) = ap (is_inside x n (p + 4)) (length-map bytes f)
  is_around-renamed x n p (Hole size) = refl

  pub block_at-renamed : (a : ℕ) (h : Heap) → block_at a (renamed_heap f h) ≡ option_map (renamed_cut f) (block_at a h)
  block_at-renamed a h = first_at-map size_of (is_block_at a) one size-renamed (is_block-renamed a) _ h.segments

  pub hole_for-renamed : (t : ℕ) (ss : List Segment) → hole_for t (map (renamed_segment f) ss) ≡ option_map (renamed_cut f) (hole_for t ss)
  hole_for-renamed t ss = first_at-map size_of (is_hole_for t) one size-renamed (is_hole-renamed t) _ ss

  pub block_around-renamed : (x n : ℕ) (h : Heap) → block_around x n (renamed_heap f h) ≡ option_map (renamed_cut f) (block_around x n h)
  block_around-renamed x n h = first_at-map size_of (is_around x n) one size-renamed (is_around-renamed x n) _ h.segments

  with_hole-renamed : (n : ℕ) (ss : List Segment) → with_hole n (map (renamed_segment f) ss) ≡ map (renamed_segment f) (with_hole n ss)
  with_hole-renamed zero ss = refl
  with_hole-renamed (suc n) [] = refl
  with_hole-renamed (suc n) (Hole m ∷ ss) = refl
  with_hole-renamed (suc n) (Used bytes ∷ ss) = refl

  joined-renamed : (ss : List Segment) → joined (map (renamed_segment f) ss) ≡ map (renamed_segment f) (joined ss)
  joined-renamed [] = refl
  joined-renamed (Used bytes ∷ ss) = ap (λ l. Used (map f bytes) ∷ l) (joined-renamed ss)
  joined-renamed (Hole n ∷ ss) = ap (with_hole n) (joined-renamed ss) ∙ with_hole-renamed n (joined ss)

  -- ---- claims

  placed_in-renamed : (bytes : List ℕ) (h : Heap) (o : Option (Split Segment)) → placed_in (map f bytes) (renamed_heap f h) (option_map
      (renamed_cut f) o) ≡ renamed_placed f (placed_in bytes h o)
  placed_in-renamed bytes h None =
      ap (λ ss. placed_at ss h.end (place_after (map one h.segments) + 4)) (sym (map-append one h.segments (Used bytes ∷ [])))
      ∙ ap (λ a. placed_at (map one (h.segments ++ Used bytes ∷ [])) h.end (a + 4)) (place-renamed h.segments)
  placed_in-renamed bytes h (Some s) =
      ap (λ a. placed_at (map one s.before ++ Used (map f bytes) ∷ with_hole (size_of (one s.here) - (4 + length (map f bytes)))
      (map one s.after)) h.end (a + 4)) (place-renamed s.before)
      ∙ ap (λ n. placed_at (map one s.before ++ Used (map f bytes) ∷ with_hole (n - (4 + length (map f bytes))) (map one s.after)) h.end
      (place_after s.before + 4)) (size-renamed s.here)
      ∙ ap (λ n. placed_at (map one s.before ++ Used (map f bytes) ∷ with_hole (size_of s.here - (4 + n)) (map one s.after)) h.end
      (place_after s.before + 4)) (length-map bytes f)
      ∙ ap (λ ss. placed_at (map one s.before ++ Used (map f bytes) ∷ ss) h.end (place_after s.before + 4)) (with_hole-renamed (size_of s.here -
      (4 + length bytes)) s.after)
      ∙ ap (λ ss. placed_at ss h.end (place_after s.before + 4)) (sym (map-append one s.before (Used bytes ∷ with_hole (size_of s.here -
      (4 + length bytes)) s.after)))

  placed-renamed : (bytes : List ℕ) (h : Heap) → placed_block (map f bytes) (renamed_heap f h) ≡ renamed_placed f (placed_block bytes h)
  placed-renamed bytes h =
      ap (λ n. placed_in (map f bytes) (renamed_heap f h) (hole_for (4 + n) (map one h.segments))) (length-map bytes f)
      ∙ ap (placed_in (map f bytes) (renamed_heap f h)) (hole_for-renamed (4 + length bytes) h.segments)
      ∙ placed_in-renamed bytes h (hole_for (4 + length bytes) h.segments)

  shortage-renamed : (t : ℕ) (h : Heap) (o : Option (Split Segment)) → shortage_in t (renamed_heap f h) (option_map (renamed_cut f) o) ≡ shortage_in t h o
  shortage-renamed t h None = ap (λ n. (n + t) - h.end) (place-renamed h.segments)
  shortage-renamed t h (Some s) = refl

  pub need-renamed : (n : ℕ) (h : Heap) → need n (renamed_heap f h) ≡ need n h
  need-renamed n h =
      ap (shortage_in (segment_size n) (renamed_heap f h)) (hole_for-renamed (segment_size n) h.segments)
      ∙ shortage-renamed (segment_size n) h (hole_for (segment_size n) h.segments)

  -- ---- releases

  pub released-renamed : (s : Split Segment) (h : Heap) → released (renamed_cut f s) (renamed_heap f h) ≡ renamed_heap f (released s h)
  released-renamed s h =
      ap (λ n. heap_of (joined (map one s.before ++ Hole n ∷ map one s.after))) (size-renamed s.here)
      ∙ ap (λ ss. heap_of (joined ss)) (sym (map-append one s.before (Hole (size_of s.here) ∷ s.after)))
      ∙ ap heap_of (joined-renamed (s.before ++ Hole (size_of s.here) ∷ s.after))
    where
      heap_of : List Segment → Heap
      heap_of ss = record { segments = ss; end = h.end }

  pub release-renamed : (a : ℕ) (h : Heap) → release_block a (renamed_heap f h) ≡ renamed_heap f (release_block a h)
  release-renamed a h = ap (λ o. release_found o (renamed_heap f h)) (block_at-renamed a h) ∙ go (block_at a h)
    where
      go : (o : Option (Split Segment)) → release_found (option_map (renamed_cut f) o) (renamed_heap f h) ≡ renamed_heap f (release_found o h)
      go None = refl
      go (Some s) = released-renamed s h

  -- ---- sums

  hole_size-renamed : (g : Segment) → hole_size (renamed_segment f g) ≡ hole_size g
  hole_size-renamed (Used bytes) = refl
  hole_size-renamed (Hole size) = refl

  largest_hole-renamed : (ss : List Segment) → largest_hole (map (renamed_segment f) ss) ≡ largest_hole ss
  largest_hole-renamed [] = refl
  largest_hole-renamed (g ∷ ss) = ap (λ n. max n (largest_hole (map one ss))) (hole_size-renamed g) ∙ ap (max (hole_size g)) (largest_hole-renamed ss)

  pub largest-renamed : (h : Heap) → largest (renamed_heap f h) ≡ largest h
  largest-renamed h =
      ap (λ n. max n (h.end - place_after (map one h.segments)) - 4) (largest_hole-renamed h.segments)
      ∙ ap (λ n. max (largest_hole h.segments) (h.end - n) - 4) (place-renamed h.segments)

  pub free_bytes-renamed : (h : Heap) → free_bytes (renamed_heap f h) ≡ free_bytes h
  free_bytes-renamed h =
      ap (λ n. n + (h.end - place_after (map one h.segments))) (total-map hole_size one hole_size-renamed h.segments)
      ∙ ap (λ n. total hole_size h.segments + (h.end - n)) (place-renamed h.segments)

  -- ---- resizes

  way_beyond-renamed : (after : List Segment) (o : Option (Split Segment)) → way_beyond (map (renamed_segment f) after) (option_map
      (renamed_cut f) o) ≡ renamed_way f (way_beyond after o)
  way_beyond-renamed after (Some hole) = refl
  way_beyond-renamed [] None = refl
  way_beyond-renamed (g ∷ after) None = refl

  chosen-way : (b : Bool) (x y z w : Way) → z ≡ renamed_way f x → w ≡ renamed_way f y → cond b z w ≡ renamed_way f (cond b x y)
  chosen-way true x y z w p q = p
  chosen-way false x y z w p q = q

  way_to_grow-renamed : (t : ℕ) (s : Split Segment) (after : List Segment) (h : Heap) → way_to_grow t (renamed_cut f s) (map
      (renamed_segment f) after) (renamed_heap f h) ≡ renamed_way f (way_to_grow t s after h)
  way_to_grow-renamed t s [] h =
      ap (λ n. cond (nat_le (n + t) h.end) GrowsAtTop (way_beyond [] (hole_for t (map one h.segments)))) (place-renamed s.before)
      ∙ chosen-way (nat_le (place_after s.before + t) h.end) _ _ _ _ refl (ap (way_beyond [])
      (hole_for-renamed t h.segments) ∙ way_beyond-renamed [] (hole_for t h.segments))
  way_to_grow-renamed t s (Used bytes ∷ after) h =
      ap (way_beyond (map one (Used bytes ∷ after))) (hole_for-renamed t h.segments) ∙ way_beyond-renamed (Used bytes ∷ after) (hole_for t h.segments)
  way_to_grow-renamed t s (Hole size ∷ after) h =
      ap (λ n. cond (nat_le t (n + size)) (GrowsIntoHole size (map one after)) (way_beyond (map one (Hole size ∷ after)) (hole_for t
      (map one h.segments)))) (size-renamed s.here)
      ∙ chosen-way (nat_le t (size_of s.here + size)) _ _ _ _ refl (ap (way_beyond (map one (Hole size ∷ after)))
      (hole_for-renamed t h.segments) ∙ way_beyond-renamed (Hole size ∷ after) (hole_for t h.segments))

  way_to-renamed : (t : ℕ) (s : Split Segment) (h : Heap) → way_to t (renamed_cut f s) (renamed_heap f h) ≡ renamed_way f (way_to t s h)
  way_to-renamed t s h =
      ap (λ n. cond (t == n) Stays (cond (nat_lt t n) Shrinks (way_to_grow t (renamed_cut f s) (map one s.after) (renamed_heap f h)))) (size-renamed s.here)
      ∙ chosen-way (t == size_of s.here) _ _ _ _ refl (chosen-way (nat_lt t (size_of s.here)) _ _ _ _ refl (way_to_grow-renamed t s s.after h))

  moved-renamed : (bytes : List ℕ) (s : Split Segment) (h : Heap) (o : Option (Split Segment)) →
      placed_at (release_block (place_after (map one s.before) + 4) (placed_in (map f bytes) (renamed_heap f h) (option_map (renamed_cut f) o)).heap).segments
      (release_block (place_after (map one s.before) + 4) (placed_in (map f bytes) (renamed_heap f h) (option_map (renamed_cut f) o)).heap).end
      (placed_in (map f bytes) (renamed_heap f h) (option_map (renamed_cut f) o)).address
      ≡ placed_at (map one (release_block (place_after s.before + 4) (placed_in bytes h o).heap).segments) (release_block (place_after s.before + 4)
      (placed_in bytes h o).heap).end (placed_in bytes h o).address
  moved-renamed bytes s h o =
      ap (λ (p : Placed). placed_at (release_block (place_after (map one s.before) + 4) p.heap).segments (release_block (place_after
      (map one s.before) + 4) p.heap).end p.address) (placed_in-renamed bytes h o)
      ∙ ap (λ n. placed_at (release_block (n + 4) (renamed_heap f (placed_in bytes h o).heap)).segments (release_block (n + 4) (renamed_heap f
      (placed_in bytes h o).heap)).end (placed_in bytes h o).address) (place-renamed s.before)
      ∙ ap (λ (k : Heap). placed_at k.segments k.end (placed_in bytes h o).address) (release-renamed (place_after s.before + 4) (placed_in bytes h o).heap)

  resized_by-renamed : (w : Way) (bytes : List ℕ) (s : Split Segment) (h : Heap) → resized_by (renamed_way f w) (map f bytes) (renamed_cut f s)
      (renamed_heap f h) ≡ renamed_placed f (resized_by w bytes s h)
  resized_by-renamed Stays bytes s h = ap (λ n. placed_at (map one h.segments) h.end (n + 4)) (place-renamed s.before)
  resized_by-renamed Shrinks bytes s h =
      ap (λ a. placed_at (joined (map one s.before ++ Used (map f bytes) ∷ Hole (size_of (one s.here) - (4 + length
      (map f bytes))) ∷ map one s.after)) h.end (a + 4)) (place-renamed s.before)
      ∙ ap (λ n. placed_at (joined (map one s.before ++ Used (map f bytes) ∷ Hole (n - (4 + length (map f bytes))) ∷ map one s.after)) h.end
      (place_after s.before + 4)) (size-renamed s.here)
      ∙ ap (λ n. placed_at (joined (map one s.before ++ Used (map f bytes) ∷ Hole (size_of s.here - (4 + n)) ∷ map one s.after)) h.end
      (place_after s.before + 4)) (length-map bytes f)
      ∙ ap (λ ss. placed_at (joined ss) h.end (place_after s.before + 4)) (sym (map-append one s.before (Used bytes ∷ Hole (size_of s.here -
      (4 + length bytes)) ∷ s.after)))
      ∙ ap (λ ss. placed_at ss h.end (place_after s.before + 4)) (joined-renamed (s.before ++ Used bytes ∷ Hole (size_of s.here -
      (4 + length bytes)) ∷ s.after))
  resized_by-renamed (GrowsIntoHole size rest) bytes s h =
      ap (λ a. placed_at (map one s.before ++ Used (map f bytes) ∷ with_hole ((size_of (one s.here) + size) - (4 + length (map f bytes)))
      (map one rest)) h.end (a + 4)) (place-renamed s.before)
      ∙ ap (λ n. placed_at (map one s.before ++ Used (map f bytes) ∷ with_hole ((n + size) - (4 + length (map f bytes))) (map one rest)) h.end
      (place_after s.before + 4)) (size-renamed s.here)
      ∙ ap (λ n. placed_at (map one s.before ++ Used (map f bytes) ∷ with_hole ((size_of s.here + size) - (4 + n)) (map one rest)) h.end
      (place_after s.before + 4)) (length-map bytes f)
      ∙ ap (λ ss. placed_at (map one s.before ++ Used (map f bytes) ∷ ss) h.end (place_after s.before + 4)) (with_hole-renamed
      ((size_of s.here + size) - (4 + length bytes)) rest)
      ∙ ap (λ ss. placed_at ss h.end (place_after s.before + 4)) (sym (map-append one s.before (Used bytes ∷ with_hole ((size_of s.here + size) -
      (4 + length bytes)) rest)))
  resized_by-renamed GrowsAtTop bytes s h =
      ap (λ a. placed_at (map one s.before ++ Used (map f bytes) ∷ []) h.end (a + 4)) (place-renamed s.before)
      ∙ ap (λ ss. placed_at ss h.end (place_after s.before + 4)) (sym (map-append one s.before (Used bytes ∷ [])))
  resized_by-renamed (MovesToHole hole) bytes s h = moved-renamed bytes s h (Some hole)
  resized_by-renamed MovesToTop bytes s h = moved-renamed bytes s h None

  end_for-renamed : (w : Way) (t : ℕ) (s : Split Segment) (h : Heap) → end_for (renamed_way f w) t (renamed_cut f s) (renamed_heap f h) ≡ end_for w t s h
  end_for-renamed Stays t s h = refl
  end_for-renamed Shrinks t s h = refl
  end_for-renamed (GrowsIntoHole size rest) t s h = refl
  end_for-renamed GrowsAtTop t s h = ap (λ n. n + t) (place-renamed s.before)
  end_for-renamed (MovesToHole hole) t s h = refl
  end_for-renamed MovesToTop t s h = ap (λ n. n + t) (place-renamed h.segments)

  pub resize_need-renamed : (n : ℕ) (s : Split Segment) (h : Heap) → resize_need n (renamed_cut f s) (renamed_heap f h) ≡ resize_need n s h
  resize_need-renamed n s h =
      ap (λ w. end_for w (segment_size n) (renamed_cut f s) (renamed_heap f h) - h.end) (way_to-renamed (segment_size n) s h)
      ∙ ap (λ e. e - h.end) (end_for-renamed (way_to (segment_size n) s h) (segment_size n) s h)

  pub new_size-renamed : (delta : ℤ) (s : Split Segment) → new_size delta (renamed_cut f s) ≡ new_size delta s
  new_size-renamed delta s = ap (λ n. moved n delta) (room-renamed s.here)

-- ---- where 0 stays 0

module _ (f : ℕ → ℕ) (zero-is : f 0 ≡ 0) where
  pub claim-renamed : (n : ℕ) (h : Heap) → claim_growing n (renamed_heap f h) ≡ renamed_placed f (claim_growing n h)
  claim-renamed n h =
      ap (λ m. placed_block (zeros (block_room n)) (raised m (renamed_heap f h))) (need-renamed f n h)
      ∙ ap (λ bytes. placed_block bytes (raised (need n h) (renamed_heap f h))) (sym (zeros-map f zero-is (block_room n)))
      ∙ placed-renamed f (zeros (block_room n)) (raised (need n h) h)

  pub resize-renamed : (n : ℕ) (s : Split Segment) (h : Heap) → resize_growing n (renamed_cut f s) (renamed_heap f h) ≡ renamed_placed f (resize_growing n s h)
  resize-renamed n s h =
      ap (λ m. resized n (renamed_cut f s) (renamed_heap f h) (raised m (renamed_heap f h))) (resize_need-renamed f n s h)
      ∙ ap (λ w. resized_by w (fitted (block_room n) (bytes_of (renamed_segment f s.here))) (renamed_cut f s) (renamed_heap f longer))
      (way_to-renamed f (segment_size n) s h)
      ∙ ap (λ bytes. resized_by (renamed_way f (way_to (segment_size n) s h)) (fitted (block_room n) bytes) (renamed_cut f s)
      (renamed_heap f longer)) (bytes-renamed f s.here)
      ∙ ap (λ bytes. resized_by (renamed_way f (way_to (segment_size n) s h)) bytes (renamed_cut f s) (renamed_heap f longer)) (fitted-map f zero-is
      (block_room n) (bytes_of s.here))
      ∙ resized_by-renamed f (way_to (segment_size n) s h) (fitted (block_room n) (bytes_of s.here)) s longer
    where
      longer : Heap
      longer = raised (resize_need n s h) h
