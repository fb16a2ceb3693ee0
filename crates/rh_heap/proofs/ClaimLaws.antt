-- The walk over holes, and what a claim makes of a heap.
use Rattle.rh_heap.proofs.Common.{◌≡◌, ℕ, ◌+◌, ◌-◌, ◌%◌, ◌<◌, ◌≤◌, ◌≢◌, inl, inr, false, eqb, List, [], ◌∷◌, ◌++◌, length, refl, sym, ap, subst, ◌∙◌}
use Rattle.rh_heap.proofs.Common.{append_assoc, arith, append-nil, None, Ok, Err, word, part, SameOutside, total, NonePass, Segment, Used, Hole, Heap, Placed}
use Rattle.rh_heap.proofs.Common.{IsTidy, size_of, base, hole_for, placed_block, with_hole, shortage_in, segment_size, zeros, Stand, Spells, HasRoom-from_tidy}
use Rattle.rh_heap.proofs.Common.{HasRoom-append, total-append, tidy_before, tidy_behind_hole, tidy_after, NonePass-append, first_at-none, first_at-found}
use Rattle.rh_heap.proofs.Common.{cond_true, cond_false, eqb_same, eqb_apart, leb_no, last_link-append, last_link-none, Stand-split, HasNone, opened}
use Rattle.rh_heap.proofs.Common.{StretchBetween, IsStretch, Settles, FoundHole, Gap, HasRoom, last_link, LinksTo}
use Rattle.rh_defs.specs.Heap.{is_hole_for, placed_in, block_room, need, claim_block, claim_need, as_granted}
use Rattle.rh_defs.specs.declared.heap.HeapRefusal.TheVariants.{BadSize, NoRoom}
use Rattle.rh_defs.proofs.HeapLists.{tidy_join, leb_yes}
use Rattle.rh_defs.proofs.HeapLaws.{last_link_range, NextHole, next_hole}
use Rattle.rh_heap.specs.Inner.HolesPassed.{Passed}
use Rattle.rh_heap.proofs.StretchLaws.{below_block, is_stretch}
use Rattle.rh_heap.proofs.FillLaws.{filled_between, topped}

-- ---- the walk over the holes

pub passed_start : (at : ℕ) (h : Heap) (t : ℕ) → Passed at h t 4
passed_start at h t = record { before = []; rest = h.segments; is = refl; link = refl; none = tt; inside = omega arith }

none_fits : (t p : ℕ) (ss : List Segment) → HasNone ss → NonePass size_of (is_hole_for t) p ss
none_fits t p [] n = tt
none_fits t p (Used bs ∷ ss) n = (refl, none_fits t (p + (4 + length bs)) ss n)
none_fits t p (Hole m ∷ ss) n = absurd n

-- the walk has passed one hole more
pub record PassedOn (at : ℕ) (h : Heap) (t place size : ℕ) (old : List Segment) : Type 0 where
  pub walk : Passed at h t place
  pub skipped : List Segment
  pub none : HasNone skipped
  pub before_is : walk.before ≡ (old ++ skipped) ++ Hole size ∷ []

-- what a link that is not 0 leads to, for any size that is read
pub record HoleTurn (b : List ℕ) (at : ℕ) (h : Heap) (t from place : ℕ) (old : List Segment) : Type 0 where
  pub on : from < place
  pub room : place + 8 ≤ base h
  pub found : (size : ℕ) → size ≡ word b (at + (place + 4)) → t ≤ size → FoundHole at h t (record { from = from; place = place; size = size })
  pub passed : (size : ℕ) → size ≡ word b (at + (place + 4)) → size < t → PassedOn at h t place size old

pub record WalkTurn (b : List ℕ) (at : ℕ) (h : Heap) (t from place : ℕ) (old rest : List Segment) : Type 0 where
  pub none : place ≡ 0 → hole_for t h.segments ≡ None
  pub no_more : place ≡ 0 → HasNone rest
  pub some : place ≢ 0 → HoleTurn b at h t from place old

found_turn : (b : List ℕ) (at : ℕ) (h : Heap) (t from place : ℕ) → Spells b at h → (w : Passed at h t from) → LinksTo b at (at + from) place → place ≢ 0
    → NextHole b (last_link (at + 4) (at + 16) w.before) (at + 16 + total size_of w.before) w.rest → HoleTurn b at h t from place w.before
found_turn b at h t from place s w k nz q =
    let xs = w.before in
    let f = last_link (at + 4) (at + 16) xs in
    let zs = xs ++ q.before in
    let some = k.some nz in
    let is : h.segments ≡ zs ++ Hole q.size ∷ q.rest = w.is ∙ ap (λ l. xs ++ l) q.is ∙ sym (append_assoc xs q.before (Hole q.size ∷ q.rest)) in
    let is' : h.segments ≡ (zs ++ Hole q.size ∷ []) ++ q.rest = is ∙ sym (append_assoc zs (Hole q.size ∷ []) q.rest) in
    let links : at + from ≡ last_link (at + 4) (at + 16) zs =
    w.link ∙ sym (last_link-append (at + 4) (at + 16) xs q.before ∙ last_link-none f (at + 16 + total size_of xs) q.before q.none) in
    let none = NonePass-append size_of (is_hole_for t) 16 xs q.before w.none (none_fits t (16 + total size_of xs) q.before q.none) in
    let sums = total-append xs q.before in
    let all = ap (total size_of) is ∙ total-append zs (Hole q.size ∷ q.rest) in
    let tidy = subst (IsTidy false) is s.heap.tidy in
    let mult = (tidy_behind_hole false zs q.size q.rest tidy).0 in
    let rooms = HasRoom-append zs (Hole q.size ∷ q.rest) (HasRoom-from_tidy false (zs ++ Hole q.size ∷ q.rest) tidy) in
    let big = rooms.1.0 in
    let same_f : f + word b f ≡ at + place = ap (λ i. i + word b i) (sym w.link) ∙ some in
    let there : place ≡ 16 + total size_of zs = let e = q.at in omega arith in
    let read : word b (at + (place + 4)) ≡ q.size = ap (word b) (omega arith) ∙ q.read in
    let range = last_link_range (at + 4) (at + 16) zs rooms.0 (omega arith) in
    let low : from + 4 ≤ place = elim range [ inl u ↦ omega arith | inr u ↦ omega arith ] in
    record {
      on = omega arith;
      room = omega arith;
      found = λ size e le. subst (λ i. FoundHole at h t (record { from = from; place = place; size = i })) (sym (e ∙ read)) (record {
        before = zs;
        after = q.rest;
        is = is;
        found = ap (hole_for t) is
            ∙ first_at-found size_of (is_hole_for t) 16 zs (Hole q.size) q.rest none (leb_yes t q.size (let es = e ∙ read in omega arith));
        link = links;
        place_is = there;
        fits = (let es = e ∙ read in omega arith);
        behind = low;
        inside = omega arith;
        least = big;
        multiple = mult;
      });
      passed = λ size e lt. subst (λ i. PassedOn at h t place i xs) (sym (e ∙ read)) (record {
        walk = record {
          before = zs ++ Hole q.size ∷ [];
          rest = q.rest;
          is = is';
          link = omega (arith, last_link-append (at + 4) (at + 16) zs (Hole q.size ∷ []));
          none = NonePass-append size_of (is_hole_for t) 16 zs (Hole q.size ∷ []) none (leb_no t q.size (let es = e ∙ read in omega arith), tt);
          inside = omega arith;
        };
        skipped = q.before;
        none = q.none;
        before_is = refl;
      });
    }

pub walk_turn : (b : List ℕ) (at : ℕ) (h : Heap) (t from place : ℕ) → Spells b at h → (w : Passed at h t from) → LinksTo b at (at + from) place
    → WalkTurn b at h t from place w.before w.rest
walk_turn b at h t from place s w k =
    let xs = w.before in
    let ys = w.rest in
    let f = last_link (at + 4) (at + 16) xs in
    let room = (HasRoom-append xs ys (subst HasRoom w.is (HasRoom-from_tidy false h.segments s.heap.tidy))).0 in
    let parts = Stand-split b (at + 4) (at + 16) xs ys (subst (Stand b (at + 4) (at + 16)) w.is s.stand) in
    let low : f < at + 16 + total size_of xs = elim (last_link_range (at + 4) (at + 16) xs room (omega arith)) [ inl e ↦ omega arith | inr r ↦ omega arith ] in
    let step = next_hole b f (at + 16 + total size_of xs) ys low parts.1 in
    let here : word b (at + from) ≡ word b f = ap (word b) w.link in
    record {
      none = λ z. elim step [
        | inl n ↦ ap (hole_for t) w.is
            ∙ first_at-none size_of (is_hole_for t) 16 (xs ++ ys) (NonePass-append size_of (is_hole_for t) 16 xs ys w.none
            (none_fits t (16 + total size_of xs) ys n.0))
        | inr n ↦ absurd (n.0 (sym here ∙ k.none z))
      ];
      no_more = λ z. elim step [ inl n ↦ n.0 | inr n ↦ absurd (n.0 (sym here ∙ k.none z)) ];
      some = λ nz. elim step [
        | inl n ↦ absurd (let e = k.some nz in let a = k.ahead nz in let z = n.1 in omega arith)
        | inr n ↦ found_turn b at h t from place s w k nz n.1
      ];
    }

-- ---- a block in a hole
module _ (at : ℕ) (h : Heap) (t : ℕ) (gap : Gap) (f : FoundHole at h t gap) (bs : List ℕ) (et : t ≡ 4 + length bs) where
  pub placed_found : placed_block bs h ≡ record {
    heap = record { segments = f.before ++ Used bs ∷ with_hole (gap.size - (4 + length bs)) f.after; end = h.end };
    address = 16 + total size_of f.before + 4;
  }
  placed_found = ap (λ n. placed_in bs h (hole_for n h.segments)) (sym et) ∙ ap (placed_in bs h) f.found

  pub placed_there : gap.place + 4 ≡ (placed_block bs h).address
  placed_there = ap (λ n. n + 4) f.place_is ∙ sym (ap (λ (p : Placed). p.address) placed_found)

  pub fill_between : (b c : List ℕ) (next : ℕ) → Spells b at h → LinksTo b at (at + gap.place) next → SameOutside b c (at + gap.place) (at + gap.place + t)
      → word c (at + gap.place) ≡ t → part c (at + gap.place + 4) (length bs) ≡ bs → t % 8 ≡ 0
      → StretchBetween c at h.end (f.before ++ Used bs ∷ []) f.after (record
      { link = gap.from; low = gap.place + t; next = next; upper = gap.place + gap.size })
  fill_between b c next s k o sized block mult =
      let tidy = subst (IsTidy false) f.is s.heap.tidy in
      let behind = tidy_behind_hole false f.before gap.size f.after tidy in
      let place = f.place_is in
      let fits = f.fits in
      let m = f.multiple in
      let all = ap (total size_of) f.is ∙ total-append f.before (Hole gap.size ∷ f.after) in
      let b0 = s.base in
      let has = opened b at h f.before (Hole gap.size ∷ []) f.after (at + gap.from) (at + gap.place) next (at + (gap.place + gap.size)) s f.is f.link
      (omega arith) (omega arith) k in
      filled_between b c at h.end f.before f.after gap.from gap.place next (gap.place + gap.size) t bs has (omega arith) o et sized block (omega arith)
      (omega arith)
      (tidy_join false f.before (Used bs ∷ []) (tidy_before false f.before gap.size f.after tidy) ((let e : 4 + length bs ≡ t = sym et in rw e mult), tt))
      (tidy_after f.after behind.1)

  pub fill_is_stretch : (b c : List ℕ) (next : ℕ) → Spells b at h → LinksTo b at (at + gap.place) next → SameOutside b c (at + gap.place) (at + gap.place + t)
      → word c (at + gap.place) ≡ t → part c (at + gap.place + 4) (length bs) ≡ bs → t % 8 ≡ 0
      → IsStretch c at (record { link = gap.from; low = gap.place + t; next = next; upper = gap.place + gap.size })
  fill_is_stretch b c next s k o sized block mult =
      is_stretch c at h.end (f.before ++ Used bs ∷ []) f.after (record { link = gap.from; low = gap.place + t; next = next; upper = gap.place + gap.size })
      (fill_between b c next s k o sized block mult)

  pub fill_edges : (b c : List ℕ) (next : ℕ) → Spells b at h → LinksTo b at (at + gap.place) next → SameOutside b c (at + gap.place) (at + gap.place + t)
      → word c (at + gap.place) ≡ t → part c (at + gap.place + 4) (length bs) ≡ bs → t % 8 ≡ 0
      → (gap.place + gap.size ≢ word c (at + 8)) × (next ≢ gap.place + gap.size)
  fill_edges b c next s k o sized block mult =
      below_block c at h.end (f.before ++ Used bs ∷ []) f.after (record { link = gap.from; low = gap.place + t; next = next; upper = gap.place + gap.size })
      (fill_between b c next s k o sized block mult) (tidy_behind_hole false f.before gap.size f.after (subst (IsTidy false) f.is s.heap.tidy)).1

  pub fill_spells : (b c d : List ℕ) (next : ℕ) → Spells b at h → LinksTo b at (at + gap.place) next → SameOutside b c (at + gap.place) (at + gap.place + t)
      → word c (at + gap.place) ≡ t → part c (at + gap.place + 4) (length bs) ≡ bs → t % 8 ≡ 0
      → Settles c d at (record { link = gap.from; low = gap.place + t; next = next; upper = gap.place + gap.size }) → Spells d at (placed_block bs h).heap
  fill_spells b c d next s k o sized block mult settles =
      let flat : (f.before ++ Used bs ∷ []) ++ with_hole (gap.place + gap.size - (gap.place + t)) f.after ≡ f.before ++ Used bs ∷ with_hole
      (gap.size - (4 + length bs)) f.after =
      append_assoc f.before (Used bs ∷ []) (with_hole (gap.place + gap.size - (gap.place + t)) f.after)
      ∙ ap (λ n. f.before ++ Used bs ∷ with_hole n f.after) (omega arith) in
      subst (λ (p : Placed). Spells d at p.heap) (sym placed_found)
      (subst (λ ss. Spells d at (record { segments = ss; end = h.end })) flat
      (settles h.end (f.before ++ Used bs ∷ []) f.after (fill_between b c next s k o sized block mult)))

-- ---- a block at the top
module _ (at : ℕ) (h : Heap) (t : ℕ) (none : hole_for t h.segments ≡ None) (bs : List ℕ) (et : t ≡ 4 + length bs) where
  pub placed_none : placed_block bs h ≡ record { heap = record { segments = h.segments ++ Used bs ∷ []; end = h.end }; address = base h + 4 }
  placed_none = ap (λ n. placed_in bs h (hole_for n h.segments)) (sym et) ∙ ap (placed_in bs h) none

  pub placed_top : (place : ℕ) → place ≡ base h → place + 4 ≡ (placed_block bs h).address
  placed_top place e = ap (λ n. n + 4) e ∙ sym (ap (λ (p : Placed). p.address) placed_none)

  pub append_spells : (b c d : List ℕ) (place : ℕ) → Spells b at h → place ≡ base h → place + t ≤ h.end → SameOutside b c (at + place) (at + place + t)
      → word c (at + place) ≡ t → part c (at + place + 4) (length bs) ≡ bs → SameOutside c d (at + 8) (at + 8 + 4) → word d (at + 8) ≡ place + t → t % 8 ≡ 0
      → Spells d at (placed_block bs h).heap
  append_spells b c d place s e fit o1 sized block o2 based mult =
      let q = last_link (at + 4) (at + 16) h.segments in
      let is : h.segments ≡ h.segments ++ ([] ++ []) = sym (append-nil h.segments) in
      let parts = Stand-split b (at + 4) (at + 16) h.segments [] (subst (Stand b (at + 4) (at + 16)) (sym (append-nil h.segments)) s.stand) in
      let ends : LinksTo b at q 0 = record { none = λ z. parts.1; some = λ nz. absurd (nz refl); ahead = λ nz. absurd (nz refl) } in
      let has = opened b at h h.segments [] [] q (at + place) 0 (at + place) s is refl (omega arith) (omega arith) ends in
      subst (λ (p : Placed). Spells d at p.heap) (sym placed_none)
      (topped b c d at h.end h.segments q place 0 (at + place) t (place + t) bs has ends o1 et sized block o2 based refl fit
      (tidy_join false h.segments (Used bs ∷ []) s.heap.tidy ((let z : 4 + length bs ≡ t = sym et in rw z mult), tt)))

-- ---- the answers
pub no_shortage : (t : ℕ) (h : Heap) (at : ℕ) (gap : Gap) → FoundHole at h t gap → shortage_in t h (hole_for t h.segments) ≡ 0
no_shortage t h at gap f = ap (shortage_in t h) f.found

pub top_shortage : (t : ℕ) (h : Heap) → hole_for t h.segments ≡ None → shortage_in t h (hole_for t h.segments) ≡ base h + t - h.end
top_shortage t h e = ap (shortage_in t h) e

pub no_top_shortage : (t : ℕ) (h : Heap) (top : ℕ) → hole_for t h.segments ≡ None → top ≡ base h → top + t ≤ h.end → shortage_in t h (hole_for t h.segments) ≡ 0
no_top_shortage t h top e b r = top_shortage t h e ∙ omega arith

module _ (n : ℕ) (h : Heap) where
  pub claim_zero : n ≡ 0 → claim_block n h ≡ Err BadSize
  claim_zero e = cond_true (eqb n 0) _ _ (eqb_same n 0 e)

  pub claim_done : n ≢ 0 → need n h ≡ 0 → claim_block n h ≡ Ok (as_granted (placed_block (zeros (block_room n)) h))
  claim_done ne e = cond_false (eqb n 0) _ _ (eqb_apart n 0 ne) ∙ cond_true (eqb (need n h) 0) _ _ (eqb_same (need n h) 0 e)

  pub claim_full : n ≢ 0 → need n h ≢ 0 → claim_block n h ≡ Err NoRoom
  claim_full ne e = cond_false (eqb n 0) _ _ (eqb_apart n 0 ne) ∙ cond_false (eqb (need n h) 0) _ _ (eqb_apart (need n h) 0 e)

  pub claim_need_zero : n ≡ 0 → claim_need n h ≡ Err BadSize
  claim_need_zero e = cond_true (eqb n 0) _ _ (eqb_same n 0 e)

  pub claim_need_some : n ≢ 0 → claim_need n h ≡ Ok (need n h)
  claim_need_some ne = cond_false (eqb n 0) _ _ (eqb_apart n 0 ne)

-- what a block that was put there answers
pub claim_answered : (n : ℕ) (h : Heap) (t address : ℕ) → n ≢ 0 → t ≡ segment_size n → shortage_in t h (hole_for t h.segments) ≡ 0
    → address ≡ (placed_block (zeros (t - 4)) h).address → claim_block n h ≡ Ok ((placed_block (zeros (t - 4)) h).heap, address)
claim_answered n h t address ne et e a =
    let none : need n h ≡ 0 = subst (λ i. shortage_in i h (hole_for i h.segments) ≡ 0) et e in
    let same : placed_block (zeros (block_room n)) h ≡ placed_block (zeros (t - 4)) h = ap (λ i. placed_block (zeros (i - 4)) h) (sym et) in
    claim_done n h ne none ∙ ap (λ p. Ok (as_granted p)) same ∙ ap (λ i. Ok ((placed_block (zeros (t - 4)) h).heap, i)) (sym a)

pub claim_refused : (n : ℕ) (h : Heap) (t : ℕ) → n ≢ 0 → t ≡ segment_size n → shortage_in t h (hole_for t h.segments) ≢ 0 → claim_block n h ≡ Err NoRoom
claim_refused n h t ne et e = claim_full n h ne (λ z. e (subst (λ i. shortage_in i h (hole_for i h.segments) ≡ 0) (sym et) z))
