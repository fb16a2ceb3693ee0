-- A block that moves.
use Rattle.rh_heap.proofs.Common.{◌≡◌, ℕ, zero, suc, ◌+◌, ◌-◌, ◌%◌, ◌<◌, ◌≤◌, ◌⊎◌, inl, inr, Bool, false, true, cond, eqb, List, [], ◌∷◌, ◌++◌, length}
use Rattle.rh_heap.proofs.Common.{replicate, refl, sym, ap, subst, ◌∙◌, append_assoc, arith, Option, Some, None, IfSome, Ok, option_map, word, part}
use Rattle.rh_heap.proofs.Common.{SameOutside, total, Split, first_at, Segment, Used, Hole, Heap, Placed, IsTidy, size_of, with_hole, fitted}
use Rattle.rh_heap.proofs.Common.{hole_for, placed_block, release_block, shortage_in, block_at, is_block_at, released_at, way_to, resized_by, zeros, Stand}
use Rattle.rh_heap.proofs.Common.{Spells, part_more, HasRoom-from_tidy, HasRoom-append, total-append, tidy_behind_used, cond_true, eqb_same, Stand-split}
use Rattle.rh_heap.proofs.Common.{released_at-some, link_place, HasStretch-kept, opened, closed, FoundBlock, Memory, heap_of-Spells, SpellsHeapIn, bytes_in}
use Rattle.rh_heap.proofs.Common.{heap_in, Span, WayIs, WithBlock, resized_in, into_hole, Spot, HasRoom, last_link, LinksTo}
use Rattle.rh_defs.specs.Pieces as pieces
use Rattle.rh_defs.specs.Heap.{place_after, is_hole_for, placed_in, end_for}
use Rattle.rh_defs.specs.Heap as heap
use Rattle.rh_defs.proofs.BytesLaws.{part-part, part-zeros}
use Rattle.rh_defs.proofs.HeapLists.{tidy_other, IsCut, first_at-cuts}
use Rattle.rh_defs.proofs.HeapFaults.{le_from}
use Rattle.rh_defs.proofs.HeapStretch.{filled}
use Rattle.rh_heap.specs.HeapWays.{short_by}
use Rattle.rh_heap.specs.Inner.WayEnds.{Moved}
use Rattle.rh_heap.specs.declared.span.resize.ResizeWay.TheVariants as way
use Rattle.rh_heap.proofs.StretchLaws.{but_body, word_below, LinksTo-kept}
use Rattle.rh_heap.proofs.FillLaws.{part_above}
use Rattle.rh_heap.proofs.BlockLaws.{zeros_long}
use Rattle.rh_heap.proofs.WayLaws.{cut_of, at_cut, from_cut, found_is, WayFacts, if_stays, if_shrinks, if_into, if_top, if_to_hole, if_to_top, way_facts}
use Rattle.rh_heap.proofs.ResizeLaws.{length-fitted, fitted_long}

-- ---- a block in a list, by its address and bytes
abbrev pub BlockIn : ℕ → ℕ → List ℕ → List Segment → Type 0
BlockIn a p bytes [] = ⊥
BlockIn a p bytes (Used bs ∷ ss) = ((a ≡ p + 4) × (bs ≡ bytes)) ⊎ BlockIn a (p + (4 + length bs)) bytes ss
BlockIn a p bytes (Hole n ∷ ss) = BlockIn a (p + n) bytes ss

BlockIn-behind : (a p : ℕ) (bytes : List ℕ) (xs ys : List Segment) → BlockIn a (p + total size_of xs) bytes ys → BlockIn a p bytes (xs ++ ys)
BlockIn-behind a p bytes [] ys k = subst (λ q. BlockIn a q bytes ys) (let e : p + 0 ≡ p = omega arith in e) k
BlockIn-behind a p bytes (Used bs ∷ xs) ys k = inr (BlockIn-behind a (p + (4 + length bs)) bytes xs ys
    (subst (λ q. BlockIn a q bytes ys) (let e : p + (4 + length bs + total size_of xs) ≡ p + (4 + length bs) + total size_of xs = omega arith in e) k))
BlockIn-behind a p bytes (Hole n ∷ xs) ys k = BlockIn-behind a (p + n) bytes xs ys
    (subst (λ q. BlockIn a q bytes ys) (let e : p + (n + total size_of xs) ≡ p + n + total size_of xs = omega arith in e) k)

BlockIn-front : (a p : ℕ) (bytes : List ℕ) (xs ys : List Segment) → BlockIn a p bytes xs → BlockIn a p bytes (xs ++ ys)
BlockIn-front a p bytes [] ys k = absurd k
BlockIn-front a p bytes (Used bs ∷ xs) ys (inl e) = inl e
BlockIn-front a p bytes (Used bs ∷ xs) ys (inr k) = inr (BlockIn-front a (p + (4 + length bs)) bytes xs ys k)
BlockIn-front a p bytes (Hole n ∷ xs) ys k = BlockIn-front a (p + n) bytes xs ys k

-- another segment in the place of a hole leaves the blocks
BlockIn-rest : (a p k : ℕ) (bytes : List ℕ) (ys : List Segment) → BlockIn a (p + k) bytes ys → BlockIn a p bytes (with_hole k ys)
BlockIn-rest a p zero bytes ys b = subst (λ q. BlockIn a q bytes ys) (let e : p + 0 ≡ p = omega arith in e) b
BlockIn-rest a p (suc k) bytes [] b = absurd b
BlockIn-rest a p (suc k) bytes (Hole m ∷ ys) b = subst (λ q. BlockIn a q bytes ys) (let e : p + suc k + m ≡ p + (suc k + m) = omega arith in e) b
BlockIn-rest a p (suc k) bytes (Used bs ∷ ys) b = b

BlockIn-filled : (a p n : ℕ) (bytes new : List ℕ) (xs ys : List Segment) → 4 + length new ≤ n → BlockIn a p bytes (xs ++ Hole n ∷ ys)
    → BlockIn a p bytes (xs ++ Used new ∷ with_hole (n - (4 + length new)) ys)
BlockIn-filled a p n bytes new [] ys l k =
    inr (BlockIn-rest a (p + (4 + length new)) (n - (4 + length new)) bytes ys
    (subst (λ q. BlockIn a q bytes ys) (let e : p + n ≡ p + (4 + length new) + (n - (4 + length new)) = omega arith in e) k))
BlockIn-filled a p n bytes new (Used bs ∷ xs) ys l (inl e) = inl e
BlockIn-filled a p n bytes new (Used bs ∷ xs) ys l (inr k) = inr (BlockIn-filled a (p + (4 + length bs)) n bytes new xs ys l k)
BlockIn-filled a p n bytes new (Hole m ∷ xs) ys l k = BlockIn-filled a (p + m) n bytes new xs ys l k

-- a block's bytes where the list stands
block_bytes : (b : List ℕ) (at f a p : ℕ) (bytes : List ℕ) (ss : List Segment) → Stand b f (at + p) ss → BlockIn a p bytes ss
    → part b (at + a) (length bytes) ≡ bytes
block_bytes b at f a p bytes [] st k = absurd k
block_bytes b at f a p bytes (Used bs ∷ ss) st (inl e) =
    let here : at + a ≡ at + p + 4 = (let q = e.0 in omega arith) in
    subst (λ cs. part b (at + a) (length cs) ≡ cs) e.1 (ap (λ i. part b i (length bs)) here ∙ st.1)
block_bytes b at f a p bytes (Used bs ∷ ss) st (inr k) = block_bytes b at f a (p + (4 + length bs)) bytes ss (subst (λ q. Stand b f q ss) (omega arith) st.2) k
block_bytes b at f a p bytes (Hole n ∷ ss) st k = block_bytes b at (at + p) a (p + n) bytes ss (subst (λ q. Stand b (at + p) q ss) (omega arith) st.2) k

-- ---- where a block of t bytes is put
pub record PlacedAt (h : Heap) (t : ℕ) : Type 0 where
  pub front : List Segment
  pub rest : List Segment
  pub is : (bs : List ℕ) → t ≡ 4 + length bs
      → placed_block bs h ≡ record { heap = record { segments = front ++ Used bs ∷ rest; end = h.end }; address = 16 + total size_of front + 4 }
  pub keeps : (a : ℕ) (bytes new : List ℕ) → t ≡ 4 + length new → BlockIn a 16 bytes h.segments → BlockIn a 16 bytes (front ++ Used new ∷ rest)

hole_here : (t place : ℕ) (g : Segment) → is_hole_for t place g ≡ true → (g ≡ Hole (size_of g)) × (t ≤ size_of g)
hole_here t place (Used bs) e = absurd cc
hole_here t place (Hole n) e = (refl, le_from t n e)

placed_at_of : (h : Heap) (t : ℕ) (o : Option (Split Segment)) → hole_for t h.segments ≡ o → IfSome o (IsCut size_of (is_hole_for t) 16 h.segments)
    → PlacedAt h t
placed_at_of h t None e c = record {
  front = h.segments;
  rest = [];
  is = λ bs et. ap (λ n. placed_in bs h (hole_for n h.segments)) (sym et) ∙ ap (placed_in bs h) e;
  keeps = λ a bytes new et k. BlockIn-front a 16 bytes h.segments (Used new ∷ []) k;
}
placed_at_of h t (Some s) e c = record {
  front = s.before;
  rest = with_hole (size_of s.here - t) s.after;
  is = λ bs et. ap (λ n. placed_in bs h (hole_for n h.segments)) (sym et) ∙ ap (placed_in bs h) e
      ∙ ap (λ n. let p : Placed =
      record {
        heap = record { segments = s.before ++ Used bs ∷ with_hole (size_of s.here - n) s.after; end = h.end };
        address = 16 + total size_of s.before + 4;
      } in p) (sym et);
  keeps = λ a bytes new et k.
      let g = hole_here t (16 + total size_of s.before) s.here c.passes in
      let whole : h.segments ≡ s.before ++ Hole (size_of s.here) ∷ s.after = c.whole ∙ ap (λ x. s.before ++ x ∷ s.after) g.0 in
      let fit = g.1 in
      subst (λ n. BlockIn a 16 bytes (s.before ++ Used new ∷ with_hole (size_of s.here - n) s.after)) (sym et)
      (BlockIn-filled a 16 (size_of s.here) bytes new s.before s.after (omega arith) (subst (BlockIn a 16 bytes) whole k));
}

pub placed_at : (h : Heap) (t : ℕ) → PlacedAt h t
placed_at h t = placed_at_of h t (hole_for t h.segments) refl (first_at-cuts size_of (is_hole_for t) 16 h.segments)

-- ---- a link as it stands
a_link : (b : List ℕ) (at f : ℕ) → at < f → (n : ℕ) → word b f ≡ n → (x : ℕ) × LinksTo b at f x
a_link b at f l zero e = (0, record { none = λ _. e; some = λ nz. absurd (nz refl); ahead = λ nz. absurd (nz refl) })
a_link b at f l (suc n) e =
    (f + suc n - at, record { none = λ z. absurd (let q : f + suc n - at ≡ 0 = z in omega arith); some = λ nz. omega arith; ahead = λ nz. omega arith })

-- ---- other bytes in a block
rewritten : (b c : List ℕ) (at end : ℕ) (xs ys : List Segment) (old new : List ℕ) → Spells b at (record { segments = xs ++ Used old ∷ ys; end = end })
    → length new ≡ length old
    → SameOutside b c (at + (16 + total size_of xs + 4)) (at + (16 + total size_of xs + 4) + length new)
    → part c (at + (16 + total size_of xs + 4)) (length new) ≡ new → Spells c at (record { segments = xs ++ Used new ∷ ys; end = end })
rewritten b c at end xs ys old new s len o block =
    let h : Heap = record { segments = xs ++ Used old ∷ ys; end = end } in
    let q = last_link (at + 4) (at + 16) xs in
    let low = at + 16 + total size_of xs in
    let upper = low + (4 + length new) in
    let parts = Stand-split b (at + 4) (at + 16) xs (Used old ∷ ys) s.stand in
    let room = rooms s in
    let l = link_place at xs q low room refl refl in
    let least = l.least in
    let most = l.most in
    let k = a_link b at q (omega arith) (word b q) refl in
    let st = opened b at h xs (Used old ∷ []) ys q low k.0 upper s refl refl refl (omega arith) k.1 in
    let kept = HasStretch-kept b c at end xs ys q low k.0 upper st (but_body o q low upper (at + 8) (omega arith) (omega arith)) in
    let size : word c low ≡ 4 + length new = word_below o low (omega arith) ∙ parts.1.0 ∙ omega arith in
    let full = filled c at end xs ys q low k.0 upper new kept size (ap (λ i. part c i (length new)) (omega arith) ∙ block) (omega arith) in
    let eb = s.base in
    let sums = total-append xs (Used old ∷ ys) in
    let flat = append_assoc xs (Used new ∷ []) ys in
    subst (λ ss. Spells c at (record { segments = ss; end = end })) flat
    (closed c at end (xs ++ Used new ∷ []) ys q upper k.0 upper full refl (LinksTo-kept k.1 (word_below o q (omega arith)))
    (let w = word_below o (at + 8) (omega arith) in omega arith)
    (subst (IsTidy false) (sym flat) (tidy_other false xs old new ys (multiple s) s.heap.tidy)))
  where
    rooms : Spells b at (record { segments = xs ++ Used old ∷ ys; end = end }) → HasRoom xs
    rooms s = (HasRoom-append xs (Used old ∷ ys) (HasRoom-from_tidy false (xs ++ Used old ∷ ys) s.heap.tidy)).0

    multiple : Spells b at (record { segments = xs ++ Used old ∷ ys; end = end }) → (4 + length new) % 8 ≡ 0
    multiple s = let m = (tidy_behind_used false xs old ys s.heap.tidy).0 in rw len m

-- ---- the old bytes in the new block
module _ (b : List ℕ) (at : ℕ) (h : Heap) (spot : Spot) (s : Spells b at h) (f : FoundBlock at h (spot.place + 4) spot) (t : ℕ) (longer : spot.size < t) where
  abbrev now : List ℕ
  now = fitted (t - 4) f.bytes

  zeros_are : t ≡ 4 + length (zeros (t - 4))
  zeros_are = zeros_long t (let l = f.least in omega arith)

  now_is : t ≡ 4 + length now
  now_is = let n = length-fitted (t - 4) f.bytes in let l = f.least in omega arith

  abbrev p : PlacedAt h t
  p = placed_at h t

  pub new_address : (address : ℕ) → address ≡ (placed_block (zeros (t - 4)) h).address → address ≡ 16 + total size_of p.front + 4
  new_address address e = e ∙ ap (λ (q : Placed). q.address) (p.is (zeros (t - 4)) zeros_are)

  pub new_spells : (c : List ℕ) → Spells c at (placed_block (zeros (t - 4)) h).heap
      → Spells c at (record { segments = p.front ++ Used (zeros (t - 4)) ∷ p.rest; end = h.end })
  new_spells c k = subst (λ (q : Placed). Spells c at q.heap) (p.is (zeros (t - 4)) zeros_are) k

  pub new_inside : (c : List ℕ) (address : ℕ) → Spells c at (placed_block (zeros (t - 4)) h).heap → address ≡ (placed_block (zeros (t - 4)) h).address
      → address + (t - 4) ≤ h.end
  new_inside c address k e =
      let w = new_spells c k in
      let fits = w.heap.fits in
      let a = new_address address e in
      let n = zeros_are in
      omega (arith, total-append p.front (Used (zeros (t - 4)) ∷ p.rest))

  old_in : BlockIn (spot.place + 4) 16 f.bytes h.segments
  old_in =
      let q = f.reached.place_is in
      subst (BlockIn (spot.place + 4) 16 f.bytes) (sym (found_is at h spot f))
      (BlockIn-behind (spot.place + 4) 16 f.bytes (f.reached.front ++ f.reached.gap) (Used f.bytes ∷ f.after) (inl (omega arith, refl)))

  old_bytes : (c : List ℕ) → Spells c at (placed_block (zeros (t - 4)) h).heap → part c (at + (spot.place + 4)) (spot.size - 4) ≡ f.bytes
  old_bytes c k =
      let w = new_spells c k in
      let z = f.size_is in
      ap (part c (at + (spot.place + 4))) (let e : spot.size - 4 ≡ length f.bytes = omega arith in e)
      ∙ block_bytes c at (at + 4) (spot.place + 4) 16 f.bytes (p.front ++ Used (zeros (t - 4)) ∷ p.rest) w.stand
      (p.keeps (spot.place + 4) f.bytes (zeros (t - 4)) zeros_are old_in)

  pub moved_spells : (c d : List ℕ) (address : ℕ) → Spells c at (placed_block (zeros (t - 4)) h).heap → address ≡ (placed_block (zeros (t - 4)) h).address
      → part d (at + address) (spot.size - 4) ≡ part c (at + (spot.place + 4)) (spot.size - 4) → SameOutside c d (at + address) (at + address + (spot.size - 4))
      → Spells d at (placed_block now h).heap
  moved_spells c d address k e copied o =
      let w = new_spells c k in
      let a = new_address address e in
      let n = now_is in
      let zl = zeros_are in
      let size = f.size_is in
      let least = f.least in
      let parts = Stand-split c (at + 4) (at + 16) p.front (Used (zeros (t - 4)) ∷ p.rest) w.stand in
      let m = spot.size - 4 in
      let place = at + (16 + total size_of p.front + 4) in
      let there : at + address ≡ place = omega arith in
      let low : part d place m ≡ f.bytes = ap (λ i. part d i m) (sym there) ∙ copied ∙ old_bytes c k in
      let zs : part c place (length (zeros (t - 4))) ≡ zeros (t - 4) = ap (λ i. part c i (length (zeros (t - 4)))) (omega arith) ∙ parts.1.1 in
      let zs' : part c place (t - 4) ≡ zeros (t - 4) = ap (part c place) (let q : t - 4 ≡ length (zeros (t - 4)) = omega arith in q) ∙ zs in
      let high : part d (place + m) (t - spot.size) ≡ replicate (t - spot.size) 0 =
      part_above o (place + m) (t - spot.size) (omega arith)
      ∙ sym (part-part c place (t - 4) m (t - spot.size) (omega arith)) ∙ ap (λ l. part l m (t - spot.size)) zs'
      ∙ part-zeros (t - 4) m (t - spot.size) (omega arith) in
      let whole : part d place (length now) ≡ now =
      ap (part d place) (let q : length now ≡ m + (t - spot.size) = omega arith in q) ∙ part_more d place m (t - spot.size)
      ∙ ap (λ l. l ++ part d (place + m) (t - spot.size)) low ∙ ap (λ l. f.bytes ++ l) high
      ∙ ap (λ i. f.bytes ++ replicate i 0) (let q : t - spot.size ≡ t - 4 - length f.bytes = omega arith in q)
      ∙ sym (fitted_long (t - 4) f.bytes (omega arith)) in
      let wide : SameOutside c d place (place + length now) =
      record { len = o.len; below = λ i l. o.below i (omega arith); above = λ i l. o.above i (omega arith) } in
      subst (λ (q : Placed). Spells d at q.heap) (sym (p.is now now_is)) (rewritten c d at h.end p.front p.rest (zeros (t - 4)) now w (omega arith) wide whole)

  still_there : BlockIn (spot.place + 4) 16 f.bytes (placed_block now h).heap.segments
  still_there = subst (λ (q : Placed). BlockIn (spot.place + 4) 16 f.bytes q.heap.segments) (sym (p.is now now_is))
      (p.keeps (spot.place + 4) f.bytes now now_is old_in)

  pub placed_end : (placed_block now h).heap.end ≡ h.end
  placed_end = ap (λ (q : Placed). q.heap.end) (p.is now now_is)

  pub same_address : (placed_block now h).address ≡ (placed_block (zeros (t - 4)) h).address
  same_address = ap (λ (q : Placed). q.address) (p.is now now_is) ∙ sym (ap (λ (q : Placed). q.address) (p.is (zeros (t - 4)) zeros_are))

-- ---- the span
pub moved_done : (m m2 n : Memory) (span : Span) (spot : Spot) (t address : ℕ) → Spells (bytes_in m span) span.at (heap_in m span)
    → (f : FoundBlock span.at (heap_in m span) (spot.place + 4) spot) → spot.size < t
    → shortage_in t (heap_in m span) (hole_for t (heap_in m span).segments) ≡ 0 → address ≡ (placed_block (zeros (t - 4)) (heap_in m span)).address
    → SpellsHeapIn m2 span (placed_block (fitted (t - 4) f.bytes) (heap_in m span)).heap → SpellsHeapIn n span
    (release_block (spot.place + 4) (heap_in m2 span))
    → WithBlock spot (heap_in m span) (Moved m n span t address (spot.place + 4))
moved_done m m2 n span spot t address s f longer room e k r =
    at_cut span.at (heap_in m span) spot f (Moved m n span t address (spot.place + 4)) (record {
      room = room;
      address_is = e ∙ sym (same_address (bytes_in m span) span.at (heap_in m span) spot s f t longer);
      spells = subst (λ (h : Heap). SpellsHeapIn n span (release_block (spot.place + 4) h))
          (heap_of-Spells (bytes_in m2 span) span.at (placed_block (fitted (t - 4) f.bytes) (heap_in m span)).heap k) r;
    })

pub moved_end : (m m2 : Memory) (span : Span) (spot : Spot) (t : ℕ) → Spells (bytes_in m span) span.at (heap_in m span)
    → (f : FoundBlock span.at (heap_in m span) (spot.place + 4) spot) → spot.size < t
    → SpellsHeapIn m2 span (placed_block (fitted (t - 4) f.bytes) (heap_in m span)).heap → (heap_in m2 span).end ≡ (heap_in m span).end
moved_end m m2 span spot t s f longer k =
    ap (λ (h : Heap). h.end) (heap_of-Spells (bytes_in m2 span) span.at (placed_block (fitted (t - 4) f.bytes) (heap_in m span)).heap k)
    ∙ placed_end (bytes_in m span) span.at (heap_in m span) spot s f t longer

-- a block among the segments is found
none_behind : (g : Segment) (o : Option (Split Segment)) → option_map (pieces.behind g) o ≡ None → o ≡ None
none_behind g None e = refl
none_behind g (Some s) e = absurd cc

none_else : (t : Bool) (s : Split Segment) (o : Option (Split Segment)) → cond t (Some s) o ≡ None → o ≡ None
none_else true s o e = absurd cc
none_else false s o e = e

not_missed : (a p : ℕ) (bytes : List ℕ) (ss : List Segment) → BlockIn a p bytes ss → first_at size_of (is_block_at a) p ss ≡ None → ⊥
not_missed a p bytes [] k e = absurd k
not_missed a p bytes (Used bs ∷ ss) (inl q) e = let found = sym e ∙ cond_true (eqb a (p + 4)) _ _ (eqb_same a (p + 4) q.0) in cc
not_missed a p bytes (Used bs ∷ ss) (inr k) e = not_missed a (p + (4 + length bs)) bytes ss k (none_behind (Used bs) _ (none_else (eqb a (p + 4)) _ _ e))
not_missed a p bytes (Hole n ∷ ss) k e = not_missed a (p + n) bytes ss k (none_behind (Hole n) _ e)

released_there : (a : ℕ) (h : Heap) → (block_at a h ≡ None → ⊥) → released_at a h ≡ Ok (release_block a h)
released_there a h f = go (block_at a h) refl
  where
    go : (o : Option (Split Segment)) → block_at a h ≡ o → released_at a h ≡ Ok (release_block a h)
    go None e = absurd (f e)
    go (Some s) e = released_at-some a h s e

-- the old block is still there, so its release is done
pub moved_released : (m m2 : Memory) (span : Span) (spot : Spot) (t : ℕ) → Spells (bytes_in m span) span.at (heap_in m span)
    → (f : FoundBlock span.at (heap_in m span) (spot.place + 4) spot) → spot.size < t
    → SpellsHeapIn m2 span (placed_block (fitted (t - 4) f.bytes) (heap_in m span)).heap
    → released_at (spot.place + 4) (heap_in m2 span) ≡ Ok (release_block (spot.place + 4) (heap_in m2 span))
moved_released m m2 span spot t s f longer k =
    let a = spot.place + 4 in
    let same = heap_of-Spells (bytes_in m2 span) span.at (placed_block (fitted (t - 4) f.bytes) (heap_in m span)).heap k in
    let there = still_there (bytes_in m span) span.at (heap_in m span) spot s f t longer in
    released_there a (heap_in m2 span) (not_missed a 16 f.bytes (heap_in m2 span).segments
    (subst (λ (h : Heap). BlockIn a 16 f.bytes h.segments) (sym same) there))

-- ---- what a change answers
-- which way a move is
pub data MovesBy (t : ℕ) (h : Heap) : heap.Way → Type 0 where
  by_hole : (hole : Split Segment) → hole_for t h.segments ≡ Some hole → MovesBy t h (heap.MovesToHole hole)
  by_top : hole_for t h.segments ≡ None → MovesBy t h heap.MovesToTop

moves_by : (t size : ℕ) (after : List Segment) (h : Heap) (v : heap.Way) → WayFacts t size after h v → WayIs v way.Moves → MovesBy t h v × (size < t)
moves_by t size after h heap.Stays (if_stays _) k = elim k [ ]
moves_by t size after h heap.Shrinks (if_shrinks _) k = elim k [ ]
moves_by t size after h (heap.GrowsIntoHole n rest) (if_into _ _ _ _ _) k = elim k [ ]
moves_by t size after h heap.GrowsAtTop (if_top _ _) k = elim k [ ]
moves_by t size after h (heap.MovesToHole hole) (if_to_hole _ l e) k = (by_hole hole e, l)
moves_by t size after h heap.MovesToTop (if_to_top l e) k = (by_top e, l)

-- a way of the code, and its word
pub same_way : (v : heap.Way) → WayIs v way.Stays → v ≡ heap.Stays
same_way heap.Stays k = refl
same_way heap.Shrinks k = elim k [ ]
same_way (heap.GrowsIntoHole n rest) k = elim k [ ]
same_way heap.GrowsAtTop k = elim k [ ]
same_way (heap.MovesToHole hole) k = elim k [ ]
same_way heap.MovesToTop k = elim k [ ]

same_shrink : (v : heap.Way) → WayIs v way.Shrinks → v ≡ heap.Shrinks
same_shrink heap.Shrinks k = refl
same_shrink heap.Stays k = elim k [ ]
same_shrink (heap.GrowsIntoHole n rest) k = elim k [ ]
same_shrink heap.GrowsAtTop k = elim k [ ]
same_shrink (heap.MovesToHole hole) k = elim k [ ]
same_shrink heap.MovesToTop k = elim k [ ]

same_into : (n : ℕ) (v : heap.Way) → WayIs v (way.IntoHole n) → (rest : List Segment) × (v ≡ heap.GrowsIntoHole n rest)
same_into n (heap.GrowsIntoHole _ rest) (into_hole _ _) = (rest, refl)
same_into n heap.Stays k = elim k [ ]
same_into n heap.Shrinks k = elim k [ ]
same_into n heap.GrowsAtTop k = elim k [ ]
same_into n (heap.MovesToHole hole) k = elim k [ ]
same_into n heap.MovesToTop k = elim k [ ]

same_top : (v : heap.Way) → WayIs v way.AtTop → v ≡ heap.GrowsAtTop
same_top heap.GrowsAtTop k = refl
same_top heap.Stays k = elim k [ ]
same_top heap.Shrinks k = elim k [ ]
same_top (heap.GrowsIntoHole n rest) k = elim k [ ]
same_top (heap.MovesToHole hole) k = elim k [ ]
same_top heap.MovesToTop k = elim k [ ]

module _ (at : ℕ) (h : Heap) (spot : Spot) (f : FoundBlock at h (spot.place + 4) spot) (t : ℕ) where
  abbrev here : Split Segment
  here = cut_of at h spot f

  -- by how much the heap is too short, by the way
  pub short_stays : WithBlock spot h (λ q. WayIs (way_to t q h) way.Stays) → short_by t here h ≡ 0
  short_stays w = ap (λ (v : heap.Way). end_for v t here h - h.end) (same_way (way_to t here h)
      (from_cut at h spot f (λ q. WayIs (way_to t q h) way.Stays) w)) ∙ omega arith

  pub short_shrinks : WithBlock spot h (λ q. WayIs (way_to t q h) way.Shrinks) → short_by t here h ≡ 0
  short_shrinks w = ap (λ (v : heap.Way). end_for v t here h - h.end) (same_shrink (way_to t here h)
      (from_cut at h spot f (λ q. WayIs (way_to t q h) way.Shrinks) w)) ∙ omega arith

  pub short_into : (n : ℕ) → WithBlock spot h (λ q. WayIs (way_to t q h) (way.IntoHole n)) → short_by t here h ≡ 0
  short_into n w = ap (λ (v : heap.Way). end_for v t here h - h.end) (same_into n (way_to t here h)
      (from_cut at h spot f (λ q. WayIs (way_to t q h) (way.IntoHole n)) w)).1 ∙ omega arith

  pub short_top : WithBlock spot h (λ q. WayIs (way_to t q h) way.AtTop) → short_by t here h ≡ spot.place + t - h.end
  short_top w =
      let p = f.reached.place_is in
      ap (λ (v : heap.Way). end_for v t here h - h.end) (same_top (way_to t here h) (from_cut at h spot f (λ q. WayIs (way_to t q h) way.AtTop) w))
      ∙ ap (λ n. n + t - h.end) (sym p)

  moves : WithBlock spot h (λ q. WayIs (way_to t q h) way.Moves) → MovesBy t h (way_to t here h) × (size_of here.here < t)
  moves w = moves_by t (4 + length f.bytes) f.after h (way_to t here h) (way_facts t here h) (from_cut at h spot f (λ q. WayIs (way_to t q h) way.Moves) w)

  pub moves_longer : WithBlock spot h (λ q. WayIs (way_to t q h) way.Moves) → spot.size < t
  moves_longer w = let l = (moves w).1 in let z = f.size_is in omega arith

  short_moves_of : (v : heap.Way) → MovesBy t h v → end_for v t here h - h.end ≡ shortage_in t h (hole_for t h.segments)
  short_moves_of (heap.MovesToHole hole) (by_hole _ e) = omega arith ∙ sym (ap (shortage_in t h) e)
  short_moves_of heap.MovesToTop (by_top e) = sym (ap (shortage_in t h) e)
  short_moves_of heap.Stays k = elim k [ ]
  short_moves_of heap.Shrinks k = elim k [ ]
  short_moves_of (heap.GrowsIntoHole n rest) k = elim k [ ]
  short_moves_of heap.GrowsAtTop k = elim k [ ]

  pub short_moves : WithBlock spot h (λ q. WayIs (way_to t q h) way.Moves) → short_by t here h ≡ shortage_in t h (hole_for t h.segments)
  short_moves w = short_moves_of (way_to t here h) (moves w).0

  abbrev there : Placed
  there = placed_block (fitted (t - 4) f.bytes) h

  resized_moves_of : (v : heap.Way) → t ≡ 4 + length (fitted (t - 4) f.bytes) → MovesBy t h v
      → resized_by v (fitted
      (t - 4) f.bytes) here h ≡ record { heap = release_block (place_after (f.reached.front ++ f.reached.gap) + 4) there.heap; address = there.address }
  resized_moves_of (heap.MovesToHole hole) et (by_hole _ e) =
      ap (λ (p : Placed). let r : Placed = record {
        heap = release_block
            (place_after (f.reached.front ++ f.reached.gap) + 4) p.heap;
        address = p.address;
      } in r)
      (sym (ap (λ n. placed_in (fitted (t - 4) f.bytes) h (hole_for n h.segments)) (sym et) ∙ ap (placed_in (fitted (t - 4) f.bytes) h) e))
  resized_moves_of heap.MovesToTop et (by_top e) =
      ap (λ (p : Placed). let r : Placed = record {
        heap = release_block
            (place_after (f.reached.front ++ f.reached.gap) + 4) p.heap;
        address = p.address;
      } in r)
      (sym (ap (λ n. placed_in (fitted (t - 4) f.bytes) h (hole_for n h.segments)) (sym et) ∙ ap (placed_in (fitted (t - 4) f.bytes) h) e))
  resized_moves_of heap.Stays et k = elim k [ ]
  resized_moves_of heap.Shrinks et k = elim k [ ]
  resized_moves_of (heap.GrowsIntoHole n rest) et k = elim k [ ]
  resized_moves_of heap.GrowsAtTop et k = elim k [ ]

  pub resized_moves : WithBlock spot h (λ q. WayIs (way_to t q h) way.Moves)
      → resized_in t here h ≡ record { heap = release_block (spot.place + 4) there.heap; address = there.address }
  resized_moves w =
      let l = f.least in
      let g = moves_longer w in
      let n = length-fitted (t - 4) f.bytes in
      let p = f.reached.place_is in
      resized_moves_of (way_to t here h) (omega arith) (moves w).0
      ∙ ap (λ k. let r : Placed = record { heap = release_block (k + 4) there.heap; address = there.address } in r) (sym p)

  -- the address where the block stays
  pub address_stays : (v : heap.Way) → WayIs v way.Stays → spot.place + 4 ≡ (resized_by v (fitted (t - 4) f.bytes) here h).address
  address_stays v k =
      let p = f.reached.place_is in ap (λ n. n + 4) p ∙ sym (ap (λ (u : heap.Way). (resized_by u (fitted (t - 4) f.bytes) here h).address) (same_way v k))

  pub address_shrinks : (v : heap.Way) → WayIs v way.Shrinks → spot.place + 4 ≡ (resized_by v (fitted (t - 4) f.bytes) here h).address
  address_shrinks v k = let p =
      f.reached.place_is in ap (λ n. n + 4) p ∙ sym (ap (λ (u : heap.Way). (resized_by u (fitted (t - 4) f.bytes) here h).address) (same_shrink v k))

  pub address_into : (n : ℕ) (v : heap.Way) → WayIs v (way.IntoHole n) → spot.place + 4 ≡ (resized_by v (fitted (t - 4) f.bytes) here h).address
  address_into n v k = let p =
      f.reached.place_is in ap (λ n. n + 4) p ∙ sym (ap (λ (u : heap.Way). (resized_by u (fitted (t - 4) f.bytes) here h).address) (same_into n v k).1)

  pub address_top : (v : heap.Way) → WayIs v way.AtTop → spot.place + 4 ≡ (resized_by v (fitted (t - 4) f.bytes) here h).address
  address_top v k =
      let p = f.reached.place_is in ap (λ n. n + 4) p ∙ sym (ap (λ (u : heap.Way). (resized_by u (fitted (t - 4) f.bytes) here h).address) (same_top v k))
