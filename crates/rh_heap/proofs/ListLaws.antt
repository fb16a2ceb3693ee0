-- One step of the walk that lists a heap's segments, and how it ends.
use Rattle.rh_heap.proofs.Common.{◌≡◌, ℕ, ◌+◌, ◌<◌, ◌≤◌, ◌≢◌, inl, inr, Bool, true, false, List, [], ◌∷◌, ◌++◌, length, take, refl, sym, ap, subst, ◌∙◌}
use Rattle.rh_heap.proofs.Common.{append_assoc, append-nil, arith, word, total, Used, Hole, Heap, IsTidy, size_of, base, segment_at, Spells, HasRoom, LinksTo}
use Rattle.rh_heap.proofs.Common.{last_link, last_link-append, HasRoom-from_tidy, HasRoom-append, no_segments, tidy_before, tidy_behind_used, tidy_front}
use Rattle.rh_heap.proofs.Common.{total-append, listed, Reached, FoundBlock, FoundSegment, hole_here, used_here, a_gap, no_gap, Spot}
use Rattle.std.proofs.lemmas.List.{take-append-le, take_all, append_cancel_left}
use Rattle.rh_defs.specs.Heap as heap
use Rattle.rh_defs.proofs.HeapLaws.{link_ahead}
use Rattle.rh_heap.specs.Listed.{from_cut}
use Rattle.rh_heap.specs.Inner.ListedBefore.{HasListed}
use Rattle.rh_heap.specs.Inner.SegmentsAround.{Around}
use Rattle.rh_heap.proofs.WalkLaws.{leads_here, stands}
use Rattle.rh_heap.specs.declared.layout.Segment.{Segment}

pub lists_start : (at : ℕ) (h : Heap) (target : ℕ) (spot : Spot) (items : List Segment) → FoundSegment at h target spot → items ≡ []
    → HasListed at h spot.from spot.place items (listed target (from_cut (segment_at target h)))
lists_start at h target spot items f none = record {
  link = spot.link;
  low = spot.low;
  reached = f.met.reached;
  all_is = ap (λ l. l ++ listed spot.place f.met.reached.rest) none
      ∙ (ap (listed spot.place) f.met.rest_is
      ∙ (ap (λ p. listed p (f.met.here ∷ f.met.after)) f.place_is ∙ sym (ap (λ o. listed target (from_cut o)) f.found)));
}

-- the next segment
pub data NextSegment (b : List ℕ) (at : ℕ) (h : Heap) (from place next : ℕ) (passed : List heap.Segment) : List heap.Segment → Type 0 where
  next_used : (bytes : List ℕ) (ys : List heap.Segment) → next ≢ place → word b (at + place) ≡ 4 + length bytes → place + (4 + length bytes) ≤ base h
      → 8 ≤ 4 + length bytes
      → (r : Reached at h from (place + (4 + length bytes)) from (place + (4 + length bytes))) → r.front ++ r.gap ≡ passed ++ Used bytes ∷ []
      → NextSegment b at h from place next passed (Used bytes ∷ ys)
  next_hole : (n : ℕ) (ys : List heap.Segment) → next ≡ place → word b (at + (place + 4)) ≡ n → place + n ≤ base h → 8 ≤ n
      → (r : Reached at h from place place (place + n)) → r.front ++ r.gap ≡ passed ++ Hole n ∷ [] → NextSegment b at h from place next passed (Hole n ∷ ys)

pub next_segment_at : (b : List ℕ) (at : ℕ) (h : Heap) (link low from place next : ℕ) (r : Reached at h link low from place) → (rest : List heap.Segment)
    → r.rest ≡ rest → Spells b at h → LinksTo b at (at + from) next → place < base h → NextSegment b at h from place next (r.front ++ r.gap) rest
next_segment_at b at h link low from place next r [] e s k lt =
    absurd (let p = r.place_is in omega (arith, ap (total size_of) r.is, ap (total size_of) e, total-append (r.front ++ r.gap) r.rest))
next_segment_at b at h link low from place next r (Used bs ∷ ys) e s k lt =
    let passed = r.front ++ r.gap in
    let is : h.segments ≡ passed ++ Used bs ∷ ys = r.is ∙ ap (λ l. passed ++ l) e in
    let is' : h.segments ≡ (passed ++ Used bs ∷ []) ++ ys = is ∙ sym (append_assoc passed (Used bs ∷ []) ys) in
    let p = r.place_is in
    let here = stands b at h link low from place r (Used bs ∷ ys) e s in
    let tidy = subst (IsTidy false) is s.heap.tidy in
    let mult = (tidy_behind_used false passed bs ys tidy).0 in
    let ahead = link_ahead b (at + from) (at + place + (4 + length bs)) ys (let i = r.behind in omega arith) here.2 in
    let none = k.none in
    let some = k.some in
    let on = k.ahead in
    let i = r.behind in
    let off : next ≢ place = λ q. let l = on (omega arith) in let m = some (omega arith) in
    elim ahead [ inl z ↦ absurd (omega arith) | inr w ↦ absurd (omega arith) ] in
    let sums = total-append passed (Used bs ∷ []) in
    let all = ap (total size_of) is' ∙ total-append (passed ++ Used bs ∷ []) ys in
    next_used bs ys off here.0 (omega arith) (omega arith) (record {
      front = passed ++ Used bs ∷ [];
      gap = [];
      rest = ys;
      is = is' ∙ ap (λ l. l ++ ys) (sym (append-nil (passed ++ Used bs ∷ [])));
      gap_is = no_gap refl refl;
      low_is = omega arith;
      link_is = r.from_is ∙ sym (last_link-append (at + 4) (at + 16) passed (Used bs ∷ []));
      place_is = omega (arith, ap (total size_of) (append-nil (passed ++ Used bs ∷ [])));
      from_is = r.from_is ∙ sym (last_link-append (at + 4) (at + 16) passed (Used bs ∷ []))
          ∙ ap (last_link (at + 4) (at + 16)) (sym (append-nil (passed ++ Used bs ∷ [])));
      tidy = tidy_front false passed bs ys tidy;
      link_below = omega arith;
      behind = omega arith;
      inside = omega arith;
    }) (append-nil (passed ++ Used bs ∷ []))
next_segment_at b at h link low from place next r (Hole n ∷ ys) e s k lt =
    let passed = r.front ++ r.gap in
    let is : h.segments ≡ passed ++ Hole n ∷ ys = r.is ∙ ap (λ l. passed ++ l) e in
    let is' : h.segments ≡ (passed ++ Hole n ∷ []) ++ ys = is ∙ sym (append_assoc passed (Hole n ∷ []) ys) in
    let p = r.place_is in
    let here = stands b at h link low from place r (Hole n ∷ ys) e s in
    let tidy = subst (IsTidy false) is s.heap.tidy in
    let big = (HasRoom-append passed (Hole n ∷ ys) (HasRoom-from_tidy false (passed ++ Hole n ∷ ys) tidy)).1.0 in
    let i = r.behind in
    let link_here = here.0 in
    let there : next ≡ place = leads_here b at from place next k link_here i in
    let sums = total-append passed (Hole n ∷ []) in
    let all = ap (total size_of) is' ∙ total-append (passed ++ Hole n ∷ []) ys in
    next_hole n ys there (ap (word b) (omega arith) ∙ here.1) (omega arith) big (record {
      front = passed;
      gap = Hole n ∷ [];
      rest = ys;
      is = is';
      gap_is = a_gap n refl refl;
      low_is = p;
      link_is = r.from_is;
      place_is = omega arith;
      from_is = omega (arith, last_link-append (at + 4) (at + 16) passed (Hole n ∷ []));
      tidy = tidy_before false passed n ys tidy;
      link_below = i;
      behind = omega arith;
      inside = omega arith;
    }) refl

-- ---- the hole behind a used segment

behind_used : {b : List ℕ} {at : ℕ} {h : Heap} {from place next : ℕ} {passed : List heap.Segment} {bs : List ℕ} {ys : List heap.Segment}
    → NextSegment b at h from place next passed (Used bs ∷ ys) → Reached at h from (place + (4 + length bs)) from (place + (4 + length bs))
behind_used (next_used _ _ off read fits least r e) = r

abbrev pub hole_there : ℕ → ℕ → ℕ → Spot
hole_there place size from = record { place = place; size = size; used = false; from = from; low = place; link = from }

-- what is known of a hole to which a link leads
pub record HoleThere (b : List ℕ) (at : ℕ) (h : Heap) (place from : ℕ) : Type 0 where
  pub room : place + 8 ≤ base h
  pub around : (size : ℕ) → size ≡ word b (at + (place + 4)) → Around at h place (hole_there place size from)

met_hole : (b : List ℕ) (at : ℕ) (h : Heap) (from place next : ℕ) (r : Reached at h from place from place) (rest : List heap.Segment) → r.rest ≡ rest
    → NextSegment b at h from place next (r.front ++ r.gap) rest → next ≡ place → HoleThere b at h place from
met_hole b at h from place next r [] er x here = elim x [ ]
met_hole b at h from place next r (Used bs ∷ ys) er (next_used _ _ off read fits least r' e) here = absurd (off here)
met_hole b at h from place next r (Hole n ∷ ys) er (next_hole _ _ there read fits least r' e) here = record {
  room = omega arith;
  around = λ size es. let is : size ≡ n = es ∙ read in record {
    met = record {
      reached = r;
      here = Hole n;
      after = ys;
      rest_is = er;
      here_is = hole_here n is;
      size_fits = omega arith;
      least = omega arith;
    };
    from_on = omega arith;
    up_to = omega arith;
  };
}

pub hole_behind : (b : List ℕ) (at : ℕ) (h : Heap) (address : ℕ) (spot : Spot) (target next : ℕ) → Spells b at h → FoundBlock at h address spot
    → LinksTo b at (at + spot.from) next → spot.place + spot.size ≡ target → next ≡ target → target < base h → HoleThere b at h target spot.from
hole_behind b at h address spot target next s f links ends here inside =
    let least = f.least in let size = f.size_is in
    let on = next_segment_at b at h spot.link spot.low spot.from spot.place next f.reached (Used f.bytes ∷ f.after) f.rest_is s links (omega arith) in
    let place : spot.place + (4 + length f.bytes) ≡ target = omega arith in
    let r = subst (λ p. Reached at h spot.from p spot.from p) place (behind_used on) in
    met_hole b at h spot.from target next r r.rest refl (next_segment_at b at h spot.from target spot.from target next r r.rest refl s links inside) here

-- a block's segment is the one round its place
pub block_around_place : (at : ℕ) (h : Heap) (address : ℕ) (spot : Spot) (target : ℕ) → FoundBlock at h address spot → spot.place ≡ target
    → Around at h target (record spot { used = true })
block_around_place at h address spot target f e = record {
  met = record {
    reached = f.reached;
    here = Used f.bytes;
    after = f.after;
    rest_is = f.rest_is;
    here_is = used_here f.bytes f.size_is;
    size_fits = f.size_fits;
    least = f.least;
  };
  from_on = omega arith;
  up_to = let least = f.least in omega arith;
}

-- a segment as it is listed
abbrev pub at_place : ℕ → ℕ → Bool → Segment
at_place place size used = record { place = place; size = size; used = used }

-- the walk with one more segment listed
pub record Step (at : ℕ) (h : Heap) (from place : ℕ) (x : Segment) (items all : List Segment) : Type 0 where
  pub least : 8 ≤ x.size
  pub fits : place + x.size ≤ base h
  pub lists : HasListed at h from (place + x.size) (items ++ x ∷ []) all

-- what one turn finds, for any size that is read
pub record Turn (b : List ℕ) (at : ℕ) (h : Heap) (from place next : ℕ) (items all : List Segment) : Type 0 where
  pub room : place + 8 ≤ base h
  pub hole : next ≡ place → (size : ℕ) → size ≡ word b (at + (place + 4)) → Step at h place place (at_place place size false) items all
  pub used : next ≢ place → (size : ℕ) → size ≡ word b (at + place) → Step at h from place (at_place place size true) items all

-- what is left behind a segment
left : {h : Heap} {at link low from place link' low' from' place' : ℕ} (w : Reached at h link low from place) (r : Reached at h link' low' from' place')
    (x : heap.Segment) (ys : List heap.Segment)
    → w.rest ≡ x ∷ ys → r.front ++ r.gap ≡ (w.front ++ w.gap) ++ x ∷ [] → r.rest ≡ ys
left {h} w r x ys er e =
    let passed = w.front ++ w.gap in
    let one : (passed ++ x ∷ []) ++ r.rest ≡ h.segments = sym (r.is ∙ ap (λ l. l ++ r.rest) e) in
    let two : h.segments ≡ (passed ++ x ∷ []) ++ ys = w.is ∙ (ap (λ l. passed ++ l) er ∙ sym (append_assoc passed (x ∷ []) ys)) in
    append_cancel_left (passed ++ x ∷ []) r.rest ys (one ∙ two)

turn_at : (b : List ℕ) (at : ℕ) (h : Heap) (from place next : ℕ) (items all : List Segment) (w : HasListed at h from place items all)
    (rest : List heap.Segment) → w.reached.rest ≡ rest
    → NextSegment b at h from place next (w.reached.front ++ w.reached.gap) rest → Turn b at h from place next items all
turn_at b at h from place next items all w [] er x = elim x [ ]
turn_at b at h from place next items all w (Used bs ∷ ys) er (next_used _ _ off read fits least r e) = record {
  room = omega arith;
  hole = λ here. absurd (off here);
  used = λ _ size es. subst (λ i. Step at h from place (at_place place i true) items all) (sym (es ∙ read)) (record {
    least = least;
    fits = fits;
    lists = record {
      link = from;
      low = place + (4 + length bs);
      reached = r;
      all_is = ap (λ l. (items ++ at_place place (4 + length bs) true ∷ []) ++ listed (place + (4 + length bs)) l) (left w.reached r (Used bs) ys er e)
          ∙ (append_assoc items (at_place place (4 + length bs) true ∷ []) (listed (place + (4 + length bs)) ys)
          ∙ (ap (λ l. items ++ listed place l) (sym er) ∙ w.all_is));
    };
  });
}
turn_at b at h from place next items all w (Hole n ∷ ys) er (next_hole _ _ here read fits least r e) = record {
  room = omega arith;
  used = λ off. absurd (off here);
  hole = λ _ size es. subst (λ i. Step at h place place (at_place place i false) items all) (sym (es ∙ read)) (record {
    least = least;
    fits = fits;
    lists = record {
      link = from;
      low = place;
      reached = r;
      all_is = ap (λ l. (items ++ at_place place n false ∷ []) ++ listed (place + n) l) (left w.reached r (Hole n) ys er e)
          ∙ (append_assoc items (at_place place n false ∷ []) (listed (place + n) ys) ∙ (ap (λ l. items ++ listed place l) (sym er) ∙ w.all_is));
    };
  });
}

pub turn : (b : List ℕ) (at : ℕ) (h : Heap) (from place next base' : ℕ) (items all : List Segment) → Spells b at h → HasListed at h from place items all
    → base' ≡ word b (at + 8) → place < base' → LinksTo b at (at + from) next → Turn b at h from place next items all
turn b at h from place next base' items all s w eb lt k =
    let e = s.base in
    turn_at b at h from place next items all w w.reached.rest refl (next_segment_at b at h w.link w.low from place next w.reached w.reached.rest refl s k
    (omega arith))

-- as many are listed as may be
pub lists_full : (at : ℕ) (h : Heap) (from place n : ℕ) (items all : List Segment) → HasListed at h from place items all → length items ≡ n → items ≡ take n all
lists_full at h from place n items all w e =
    sym (ap (take n) (sym w.all_is) ∙ (take-append-le n items (listed place w.reached.rest) (omega arith) ∙ take_all n items (omega arith)))

-- all are listed
pub lists_all : (b : List ℕ) (at : ℕ) (h : Heap) (from place n base' : ℕ) (items all : List Segment) → Spells b at h → HasListed at h from place items all
    → base' ≡ word b (at + 8) → base' ≤ place → length items ≤ n → items ≡ take n all
lists_all b at h from place n base' items all s w eb le few =
    let r = w.reached in
    let passed = r.front ++ r.gap in
    let rooms = HasRoom-append passed r.rest (subst HasRoom r.is (HasRoom-from_tidy false h.segments s.heap.tidy)) in
    let sum : total size_of h.segments ≡ total size_of passed + total size_of r.rest = ap (total size_of) r.is ∙ total-append passed r.rest in
    let p = r.place_is in
    let e = s.base in
    let none = no_segments r.rest rooms.1 (omega arith) in
    let is : items ≡ all = sym (append-nil items) ∙ (ap (λ l. items ++ listed place l) (sym none) ∙ w.all_is) in
    sym (ap (take n) (sym is) ∙ take_all n items few)
