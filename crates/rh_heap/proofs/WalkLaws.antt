-- One step of the walk over a heap's segments, and what it finds.
use Rattle.rh_heap.proofs.Common.{◌≡◌, ℕ, zero, suc, ◌+◌, ◌-◌, ◌<◌, ◌≤◌, ◌≢◌, ◌⊎◌, inl, inr, Bool, true, false, eqb, List, [], ◌∷◌, ◌++◌, length, refl, sym}
use Rattle.rh_heap.proofs.Common.{ap, subst, ◌∙◌, append_assoc, arith, append-nil, Option, Some, None, ◌==◌, cond, option_map, word, part, total, Split}
use Rattle.rh_heap.proofs.Common.{first_at, NonePass, Segment, Used, Hole, Heap, IsTidy, size_of, base, is_block_at, block_at, segment_at, Stand, Spells}
use Rattle.rh_heap.proofs.Common.{HasRoom-from_tidy, HasRoom-append, total-append, tidy_before, tidy_front, tidy_behind_used, NonePass-append, first_at-none}
use Rattle.rh_heap.proofs.Common.{first_at-found, eqb_same, eqb_apart, last_link-append, last_link-none, Stand-split, length-part, GapIs, no_gap, a_gap}
use Rattle.rh_heap.proofs.Common.{Reached, HereIs, used_here, hole_here, FoundSegment, FoundBlock, Spot, Gap, HasRoom, last_link, LinksTo}
use Rattle.rh_defs.specs.Pieces.{behind}
use Rattle.rh_defs.proofs.HeapLaws.{NextHole, next_hole}
use Rattle.rh_defs.proofs.BytesLaws.{word-part}
use Rattle.rh_heap.specs.Segments.{Met, NoHole, hole_spot}
use Rattle.rh_heap.specs.Inner.SegmentsAround.{Around}
use Rattle.rh_heap.specs.declared.span.segments.Mark.{Mark}

abbrev pub reached_start : (at : ℕ) (h : Heap) → Reached at h 4 16 4 16
reached_start at h = record {
  front = [];
  gap = [];
  rest = h.segments;
  is = refl;
  gap_is = no_gap refl refl;
  low_is = refl;
  link_is = refl;
  place_is = refl;
  from_is = refl;
  tidy = tt;
  link_below = omega arith;
  behind = omega arith;
  inside = omega arith;
}

-- ---- the walk over the holes

-- the holes up to the one at `from` are passed, and the link before that is at `link`
pub data HolesPassed (b : List ℕ) (at : ℕ) (h : Heap) (link from : ℕ) : Type 0 where
  none_passed : link ≡ 4 → from ≡ 4 → HolesPassed b at h link from
  hole_passed : (size : ℕ) → size ≡ word b (at + (from + 4)) → Met at h (hole_spot (record { from = link; place = from; size = size }))
      → HolesPassed b at h link from

-- where such a walk goes on
record Behind (at : ℕ) (h : Heap) (from : ℕ) : Type 0 where
  pub link : ℕ
  pub low : ℕ
  pub place : ℕ
  pub reached : Reached at h link low from place

hole_is : (size : ℕ) (u : Bool) (x : Segment) → HereIs size u x → u ≡ false → x ≡ Hole size
hole_is size true (Used bs) (used_here _ e) t = absurd cc
hole_is size false (Hole n) (hole_here _ e) t = ap Hole (sym e)
hole_is size true (Hole n) k t = elim k [ ]
hole_is size false (Used bs) k t = elim k [ ]

no_gap_at : (place link from : ℕ) (gap : List Segment) → GapIs place place link from gap → from + 4 ≤ place → gap ≡ []
no_gap_at place link from [] k l = refl
no_gap_at place link from (Hole n ∷ []) (a_gap _ e f) l = absurd (omega arith)
no_gap_at place link from (Used bs ∷ ss) k l = elim k [ ]
no_gap_at place link from (Hole n ∷ x ∷ ss) k l = elim k [ ]

-- behind a hole
pub behind_hole : (at : ℕ) (h : Heap) (gap : Gap) → Met at h (hole_spot gap) → Reached at h gap.from gap.place gap.place (gap.place + gap.size)
behind_hole at h gap m =
    let r = m.reached in
    let n = gap.size in
    let none = no_gap_at gap.place gap.from gap.from r.gap r.gap_is r.behind in
    let alone : r.front ++ r.gap ≡ r.front = ap (λ l. r.front ++ l) none ∙ append-nil r.front in
    let here = hole_is n false m.here m.here_is refl in
    let is : h.segments ≡ r.front ++ Hole n ∷ m.after =
    r.is ∙ ap (λ l. (r.front ++ r.gap) ++ l) (m.rest_is ∙ ap (λ x. x ∷ m.after) here) ∙ ap (λ l. l ++ Hole n ∷ m.after) alone in
    let sums = total-append r.front (Hole n ∷ []) in
    let low = r.low_is in
    let fits = m.size_fits in
    let least = m.least in
    record {
      front = r.front;
      gap = Hole n ∷ [];
      rest = m.after;
      is = is ∙ sym (append_assoc r.front (Hole n ∷ []) m.after);
      gap_is = a_gap n refl refl;
      low_is = low;
      link_is = r.link_is;
      place_is = omega arith;
      from_is = omega (arith, last_link-append (at + 4) (at + 16) r.front (Hole n ∷ []));
      tidy = r.tidy;
      link_below = r.behind;
      behind = omega arith;
      inside = fits;
    }

walked : (b : List ℕ) (at : ℕ) (h : Heap) (link from : ℕ) → HolesPassed b at h link from → Behind at h from
walked b at h link from (none_passed e f) =
    record { link = 4; low = 16; place = 16; reached = subst (λ i. Reached at h 4 16 i 16) (sym f) (reached_start at h) }
walked b at h link from (hole_passed size e m) =
    record { link = link; low = from; place = from + size; reached = behind_hole at h (record { from = link; place = from; size = size }) m }

hole_after : (b : List ℕ) (at : ℕ) (h : Heap) (link low from place next : ℕ) (r : Reached at h link low from place) → Spells b at h
    → LinksTo b at (at + from) next → next ≢ 0
    → NextHole b (last_link (at + 4) (at + 16) (r.front ++ r.gap)) (at + 16 + total size_of (r.front ++ r.gap)) r.rest → HolesPassed b at h from next
hole_after b at h link low from place next r s k nz q =
    let xs = r.front ++ r.gap in
    let f = last_link (at + 4) (at + 16) xs in
    let zs = xs ++ q.before in
    let some = k.some nz in
    let is : h.segments ≡ zs ++ Hole q.size ∷ q.rest = r.is ∙ ap (λ l. xs ++ l) q.is ∙ sym (append_assoc xs q.before (Hole q.size ∷ q.rest)) in
    let links : at + from ≡ last_link (at + 4) (at + 16) zs =
    r.from_is ∙ sym (last_link-append (at + 4) (at + 16) xs q.before ∙ last_link-none f (at + 16 + total size_of xs) q.before q.none) in
    let sums = total-append xs q.before in
    let all = ap (total size_of) is ∙ total-append zs (Hole q.size ∷ q.rest) in
    let tidy = subst (IsTidy false) is s.heap.tidy in
    let big = (HasRoom-append zs (Hole q.size ∷ q.rest) (HasRoom-from_tidy false (zs ++ Hole q.size ∷ q.rest) tidy)).1.0 in
    let same_f : f + word b f ≡ at + next = ap (λ i. i + word b i) (sym r.from_is) ∙ some in
    let there : next ≡ 16 + total size_of zs = let e = q.at in omega arith in
    let read : word b (at + (next + 4)) ≡ q.size = ap (word b) (omega arith) ∙ q.read in
    let behind = r.behind in
    let p = r.place_is in
    hole_passed q.size (sym read) (record {
      reached = record {
        front = zs;
        gap = [];
        rest = Hole q.size ∷ q.rest;
        is = is ∙ ap (λ l. l ++ Hole q.size ∷ q.rest) (sym (append-nil zs));
        gap_is = no_gap refl refl;
        low_is = there;
        link_is = links;
        place_is = there ∙ ap (λ l. 16 + total size_of l) (sym (append-nil zs));
        from_is = links ∙ ap (last_link (at + 4) (at + 16)) (sym (append-nil zs));
        tidy = tidy_before false zs q.size q.rest tidy;
        link_below = omega arith;
        behind = omega arith;
        inside = omega arith;
      };
      here = Hole q.size;
      after = q.rest;
      rest_is = refl;
      here_is = hole_here q.size refl;
      size_fits = omega arith;
      least = big;
    })

-- the next hole is passed
pub next_passed : (b : List ℕ) (at : ℕ) (h : Heap) (link from next : ℕ) → Spells b at h → HolesPassed b at h link from → LinksTo b at (at + from) next
    → next ≢ 0 → HolesPassed b at h from next
next_passed b at h link from next s w k nz =
    let v = walked b at h link from w in
    let r = v.reached in
    let xs = r.front ++ r.gap in
    let f = last_link (at + 4) (at + 16) xs in
    let parts = Stand-split b (at + 4) (at + 16) xs r.rest (subst (Stand b (at + 4) (at + 16)) r.is s.stand) in
    let ef = r.from_is in
    let low = r.behind in
    let place = r.place_is in
    let here : word b (at + from) ≡ word b f = ap (word b) ef in
    elim (next_hole b f (at + 16 + total size_of xs) r.rest (omega arith) parts.1) [
      | inl n ↦ absurd (let a = k.ahead nz in let e = k.some nz in let z = n.1 in omega arith)
      | inr n ↦ hole_after b at h v.link v.low from v.place next r s k nz n.1
    ]

-- a link of the walk has its word below the base
pub link_inside : (b : List ℕ) (at : ℕ) (h : Heap) (link from : ℕ) → HolesPassed b at h link from → from + 4 ≤ base h
link_inside b at h link from w =
    let r = (walked b at h link from w).reached in
    omega (arith, r.behind, r.inside)

-- the hole at which the walk ends
pub record LastRead (b : List ℕ) (at : ℕ) (h : Heap) (link from : ℕ) : Type 0 where
  pub room : from + 8 ≤ base h
  pub met : (size : ℕ) → size ≡ word b (at + (from + 4)) → Met at h (hole_spot (record { from = link; place = from; size = size }))

pub last_read : (b : List ℕ) (at : ℕ) (h : Heap) (link from : ℕ) → HolesPassed b at h link from → from ≢ 4 → LastRead b at h link from
last_read b at h link from (none_passed e f) ne = absurd (ne f)
last_read b at h link from (hole_passed n e m) ne = record {
  room = omega (arith, m.size_fits, m.least);
  met = λ size es. subst (λ i. Met at h (hole_spot (record { from = link; place = from; size = i }))) (e ∙ sym es) m;
}

-- ---- the walk over used segments

-- a used segment, for any size that is read
pub record UsedTurn (b : List ℕ) (at : ℕ) (h : Heap) (link low from place : ℕ) : Type 0 where
  pub room : place + 8 ≤ base h
  pub met : (size : ℕ) → size ≡ word b (at + place) → Met at h (record { place = place; size = size; used = true; from = from; low = low; link = link })
  pub on : (size : ℕ) → size ≡ word b (at + place) → Reached at h from (place + size) from (place + size)

pub leads_here : (b : List ℕ) (at from place next : ℕ) → LinksTo b at (at + from) next → at + from + word b (at + from) ≡ at + place → from + 4 ≤ place
    → next ≡ place
leads_here b at from place zero k e i = absurd (let z = k.none refl in omega arith)
leads_here b at from place (suc n) k e i = let m = k.some (omega arith) in omega arith

-- the segments that are left stand there
pub stands : (b : List ℕ) (at : ℕ) (h : Heap) (link low from place : ℕ) (r : Reached at h link low from place) (rest : List Segment) → r.rest ≡ rest
    → Spells b at h → Stand b (at + from) (at + place) rest
stands b at h link low from place r rest e s =
    let passed = r.front ++ r.gap in
    let is : h.segments ≡ passed ++ rest = r.is ∙ ap (λ l. passed ++ l) e in
    let parts = Stand-split b (at + 4) (at + 16) passed rest (subst (Stand b (at + 4) (at + 16)) is s.stand) in
    let p = r.place_is in
    subst (λ f. Stand b f (at + place) rest) (sym r.from_is) (subst (λ q. Stand b (last_link (at + 4) (at + 16) passed) q rest) (omega arith) parts.1)

-- a used segment is passed
used_passed : (at : ℕ) (h : Heap) (link low from place : ℕ) (r : Reached at h link low from place) (bs : List ℕ) (ys : List Segment) → r.rest ≡ Used bs ∷ ys
    → IsTidy false h.segments → Reached at h from (place + (4 + length bs)) from (place + (4 + length bs))
used_passed at h link low from place r bs ys e t =
    let passed = r.front ++ r.gap in
    let is : h.segments ≡ passed ++ Used bs ∷ ys = r.is ∙ ap (λ l. passed ++ l) e in
    let is' : h.segments ≡ (passed ++ Used bs ∷ []) ++ ys = is ∙ sym (append_assoc passed (Used bs ∷ []) ys) in
    let p = r.place_is in
    let i = r.behind in
    let sums = total-append passed (Used bs ∷ []) in
    let all = ap (total size_of) is' ∙ total-append (passed ++ Used bs ∷ []) ys in
    record {
      front = passed ++ Used bs ∷ [];
      gap = [];
      rest = ys;
      is = is' ∙ ap (λ l. l ++ ys) (sym (append-nil (passed ++ Used bs ∷ [])));
      gap_is = no_gap refl refl;
      low_is = omega arith;
      link_is = r.from_is ∙ sym (last_link-append (at + 4) (at + 16) passed (Used bs ∷ []));
      place_is = omega (arith, ap (total size_of) (append-nil (passed ++ Used bs ∷ [])));
      from_is = r.from_is ∙ sym (last_link-append (at + 4) (at + 16) passed (Used bs ∷ []))
          ∙ ap (last_link (at + 4) (at + 16)) (sym (append-nil (passed ++ Used bs ∷ [])));
      tidy = tidy_front false passed bs ys (subst (IsTidy false) is t);
      link_below = omega arith;
      behind = omega arith;
      inside = omega arith;
    }

used_turn_at : (b : List ℕ) (at : ℕ) (h : Heap) (link low from place next : ℕ) (r : Reached at h link low from place) (rest : List Segment) → r.rest ≡ rest
    → Spells b at h → LinksTo b at (at + from) next → next ≢ place → place < base h → UsedTurn b at h link low from place
used_turn_at b at h link low from place next r [] e s k ne lt =
    absurd (let p = r.place_is in omega (arith, ap (total size_of) r.is, ap (total size_of) e, total-append (r.front ++ r.gap) r.rest))
used_turn_at b at h link low from place next r (Hole n ∷ ys) e s k ne lt =
    absurd (ne (leads_here b at from place next k (stands b at h link low from place r (Hole n ∷ ys) e s).0 r.behind))
used_turn_at b at h link low from place next r (Used bs ∷ ys) e s k ne lt =
    let passed = r.front ++ r.gap in
    let read = (stands b at h link low from place r (Used bs ∷ ys) e s).0 in
    let on = used_passed at h link low from place r bs ys e s.heap.tidy in
    let mult = (tidy_behind_used false passed bs ys (subst (IsTidy false) (r.is ∙ ap (λ l. passed ++ l) e) s.heap.tidy)).0 in
    let fits = on.inside in
    record {
      room = omega arith;
      met = λ size es. subst (λ i. Met at h (record { place = place; size = i; used = true; from = from; low = low; link = link })) (sym (es ∙ read)) (record {
        reached = r;
        here = Used bs;
        after = ys;
        rest_is = e;
        here_is = used_here bs refl;
        size_fits = fits;
        least = omega arith;
      });
      on = λ size es. subst (λ i. Reached at h from (place + i) from (place + i)) (sym (es ∙ read)) on;
    }

pub used_turn : (b : List ℕ) (at : ℕ) (h : Heap) (link low from place target : ℕ) → Spells b at h → Reached at h link low from place
    → NoHole b at from target → place ≤ target → target < base h → UsedTurn b at h link low from place
used_turn b at h link low from place target s r n le lt =
    let p = r.place_is in
    let beyond = n.beyond in
    let off : n.next ≢ place = λ e. let l = beyond (omega arith) in omega arith in
    used_turn_at b at h link low from place n.next r r.rest refl s n.links off (omega arith)

-- the walk stands where it began, or behind a used segment
pub record UsedWalk (at : ℕ) (h : Heap) (start : Mark) (target place : ℕ) : Type 0 where
  pub up_to : place ≤ target
  pub reached : (place ≡ start.place) ⊎ Reached at h start.from place start.from place

pub record UsedStep (at : ℕ) (h : Heap) (start : Mark) (target place size : ℕ) : Type 0 where
  pub least : 8 ≤ size
  pub passed : place + size ≤ target → UsedWalk at h start target (place + size)

module _ (b : List ℕ) (at : ℕ) (h : Heap) (start : Mark) (target : ℕ) (s : Spells b at h) (r : Reached at h start.link start.low start.from start.place)
    (n : NoHole b at start.from target) (lt : target < base h) where
  pub used_step : (place size : ℕ) → UsedWalk at h start target place → size ≡ word b (at + place) → UsedStep at h start target place size
  used_step place size w e =
      let up = w.up_to in
      elim w.reached [
        | inl q ↦
            let t = used_turn b at h start.link start.low start.from place target s (subst (Reached at h start.link start.low start.from) (sym q) r) n up lt in
            record { least = (t.met size e).least; passed = λ l. record { up_to = l; reached = inr (t.on size e) } }
        | inr q ↦
            let t = used_turn b at h start.from place start.from place target s q n up lt in
            record { least = (t.met size e).least; passed = λ l. record { up_to = l; reached = inr (t.on size e) } }
      ]

  -- where a walk stands that went through a slice of the bytes
  pub step_in : (bytes : List ℕ) (k passed size : ℕ) → bytes ≡ part b (at + start.place) k → passed + 4 ≤ length bytes → size ≡ word bytes passed
      → UsedWalk at h start target (start.place + passed) → UsedStep at h start target (start.place + passed) size
  step_in bytes k passed size eb room e w =
      let long : length bytes ≡ k = ap length eb ∙ length-part b (at + start.place) k in
      used_step (start.place + passed) size w (e ∙ ap (λ l. word l passed) eb ∙ word-part b (at + start.place) k passed (omega arith)
      ∙ ap (word b) (omega arith))

-- the mark of the walk to a place
pub record MarkWalk (at : ℕ) (h : Heap) (from target : ℕ) (mark : Mark) : Type 0 where
  pub reached : Reached at h mark.link mark.low mark.from mark.place
  pub same : mark.from ≡ from
  pub up_to : mark.place ≤ target

module _ (b : List ℕ) (at : ℕ) (h : Heap) (from target : ℕ) (mark : Mark) (s : Spells b at h) (n : NoHole b at from target) (lt : target < base h)
    (w : MarkWalk at h from target mark) where
  pub none_on : NoHole b at mark.from target
  none_on = subst (λ i. NoHole b at i target) (sym w.same) n

  pub mark_turn : UsedTurn b at h mark.link mark.low mark.from mark.place
  mark_turn = used_turn b at h mark.link mark.low mark.from mark.place target s w.reached none_on w.up_to lt

-- ---- the end of the walk
below_target : (target p : ℕ) (ss : List Segment) → HasRoom ss → p + total size_of ss ≤ target → NonePass size_of (λ q g. target == q) p ss
below_target target p [] r l = tt
below_target target p (Used bs ∷ ss) r l = (eqb_apart target p (omega arith), below_target target (p + (4 + length bs)) ss r (omega arith))
below_target target p (Hole n ∷ ss) r l = let big = r.0 in (eqb_apart target p (omega arith), below_target target (p + n) ss r.1 (omega arith))

above_target : (target p : ℕ) (ss : List Segment) → target < p → NonePass size_of (λ q g. target == q) p ss
above_target target p [] l = tt
above_target target p (x ∷ ss) l = (eqb_apart target p (omega arith), above_target target (p + size_of x) ss (omega arith))

pub before_first : (h : Heap) (target : ℕ) → target < 16 → segment_at target h ≡ None
before_first h target l = first_at-none size_of (λ p g. target == p) 16 h.segments (above_target target 16 h.segments l)

pub past_base : (b : List ℕ) (at : ℕ) (h : Heap) (target base' : ℕ) → Spells b at h → base' ≡ word b (at + 8) → base' ≤ target → segment_at target h ≡ None
past_base b at h target base' s e l =
    let eb = s.base in
    first_at-none size_of (λ p g. target == p) 16 h.segments (below_target target 16 h.segments (HasRoom-from_tidy false h.segments s.heap.tidy) (omega arith))

size_here : (size : ℕ) (u : Bool) (x : Segment) → HereIs size u x → size ≡ size_of x
size_here size true (Used bs) (used_here _ e) = e
size_here size false (Hole n) (hole_here _ e) = e
size_here size true (Hole n) k = elim k [ ]
size_here size false (Used bs) k = elim k [ ]

-- the segments round the one to which a walk has come
pub record Parts (at : ℕ) (h : Heap) (spot : Spot) (m : Met at h spot) : Type 0 where
  pub is : h.segments ≡ (m.reached.front ++ m.reached.gap) ++ m.here ∷ m.after
  pub room : HasRoom (m.reached.front ++ m.reached.gap)
  pub size : spot.size ≡ size_of m.here

pub parts_of : (at : ℕ) (h : Heap) (spot : Spot) → IsTidy false h.segments → (m : Met at h spot) → Parts at h spot m
parts_of at h spot t m =
    let xs = m.reached.front ++ m.reached.gap in
    let is : h.segments ≡ xs ++ m.here ∷ m.after = m.reached.is ∙ ap (λ l. xs ++ l) m.rest_is in
    record {
      is = is;
      room = (HasRoom-append xs (m.here ∷ m.after) (HasRoom-from_tidy false (xs ++ m.here ∷ m.after) (subst (IsTidy false) is t))).0;
      size = size_here spot.size spot.used m.here m.here_is;
    }

-- the segment round a place begins there
pub found_here : (at : ℕ) (h : Heap) (target : ℕ) (spot : Spot) → IsTidy false h.segments → Around at h target spot → spot.place ≡ target
    → FoundSegment at h target spot
found_here at h target spot t a e =
    let m = a.met in
    let xs = m.reached.front ++ m.reached.gap in
    let parts = parts_of at h spot t m in
    let p = m.reached.place_is in
    record {
      met = m;
      place_is = e;
      found = ap (first_at size_of (λ p g. target == p) 16) parts.is
          ∙ first_at-found size_of (λ p g. target == p) 16 xs m.here m.after (below_target target 16 xs parts.room (omega arith))
          (eqb_same target (16 + total size_of xs) (omega arith));
    }

-- or none does
pub none_here : (at : ℕ) (h : Heap) (target : ℕ) (spot : Spot) → IsTidy false h.segments → Around at h target spot → spot.place ≢ target
    → segment_at target h ≡ None
none_here at h target spot t a ne =
    let m = a.met in
    let xs = m.reached.front ++ m.reached.gap in
    let parts = parts_of at h spot t m in
    let p = m.reached.place_is in
    let l = a.from_on in
    let u = a.up_to in
    let z = parts.size in
    ap (first_at size_of (λ p g. target == p) 16) parts.is
    ∙ first_at-none size_of (λ p g. target == p) 16 (xs ++ m.here ∷ m.after)
    (NonePass-append size_of (λ p g. target == p) 16 xs (m.here ∷ m.after) (below_target target 16 xs parts.room (omega arith))
    (eqb_apart target (16 + total size_of xs) (omega arith), above_target target (16 + total size_of xs + size_of m.here) m.after (omega arith)))

-- ---- the block at an address
first_is_none : {A : Type 0} (t : Bool) (s : Split A) (f : Split A → Split A) (o : Option (Split A)) → cond t (Some s) (option_map f o) ≡ None
    → (t ≡ false) × (o ≡ None)
first_is_none true s f o e = absurd cc
first_is_none false s f None e = (refl, refl)
first_is_none false s f (Some x) e = absurd cc

other_block : (target p : ℕ) (x : Segment) → eqb target p ≡ false → is_block_at (target + 4) p x ≡ false
other_block target p (Used bs) e =
    eqb_apart (target + 4) (p + 4) (λ q. let same : eqb target p ≡ true = eqb_same target p (omega arith) in let f : true ≡ false = sym same ∙ e in cc)
other_block target p (Hole n) e = refl

no_block : (target p : ℕ) (ss : List Segment) → first_at size_of (λ q g. target == q) p ss ≡ None → NonePass size_of (is_block_at (target + 4)) p ss
no_block target p [] e = tt
no_block target p (x ∷ ss) e =
    let n = first_is_none (eqb target p) (record { before = []; here = x; after = ss }) (behind x) (first_at size_of (λ q g. target == q) (p + size_of x) ss)
    e in
    (other_block target p x n.0, no_block target (p + size_of x) ss n.1)

pub no_block_at : (address : ℕ) (h : Heap) → 4 ≤ address → segment_at (address - 4) h ≡ None → block_at address h ≡ None
no_block_at address h l e =
    let same : address - 4 + 4 ≡ address = omega arith in
    subst (λ a. block_at a h ≡ None) same (first_at-none size_of (is_block_at (address - 4 + 4)) 16 h.segments (no_block (address - 4) 16 h.segments e))

none_above : (address p : ℕ) (ss : List Segment) → address < p + 4 → NonePass size_of (is_block_at address) p ss
none_above address p [] l = tt
none_above address p (Used bs ∷ ss) l = (eqb_apart address (p + 4) (omega arith), none_above address (p + (4 + length bs)) ss (omega arith))
none_above address p (Hole n ∷ ss) l = (refl, none_above address (p + n) ss (omega arith))

none_below : (address p : ℕ) (ss : List Segment) → HasRoom ss → p + total size_of ss + 4 ≤ address → NonePass size_of (is_block_at address) p ss
none_below address p [] r l = tt
none_below address p (Used bs ∷ ss) r l = (eqb_apart address (p + 4) (omega arith), none_below address (p + (4 + length bs)) ss r (omega arith))
none_below address p (Hole n ∷ ss) r l = (refl, none_below address (p + n) ss r.1 (omega arith))

pub no_low_block : (address : ℕ) (h : Heap) → address < 4 → block_at address h ≡ None
no_low_block address h l = first_at-none size_of (is_block_at address) 16 h.segments (none_above address 16 h.segments (omega arith))

found_block_at : (at : ℕ) (h : Heap) (address : ℕ) (spot : Spot) → IsTidy false h.segments → 4 ≤ address → (f : FoundSegment at h (address - 4) spot)
    → (bs : List ℕ) → f.met.here ≡ Used bs → spot.size ≡ 4 + length bs → FoundBlock at h address spot
found_block_at at h address spot t l f bs eh es =
    let m = f.met in
    let r = m.reached in
    let passed = r.front ++ r.gap in
    let rest = m.rest_is ∙ ap (λ x. x ∷ m.after) eh in
    let is : h.segments ≡ passed ++ Used bs ∷ m.after = r.is ∙ ap (λ l. passed ++ l) rest in
    let tidy = subst (IsTidy false) is t in
    let room = (HasRoom-append passed (Used bs ∷ m.after) (HasRoom-from_tidy false (passed ++ Used bs ∷ m.after) tidy)).0 in
    let p = r.place_is in
    let q = f.place_is in
    let mult = (tidy_behind_used false passed bs m.after tidy).0 in
    record {
      reached = r;
      bytes = bs;
      after = m.after;
      rest_is = rest;
      size_is = es;
      address_is = omega arith;
      found = ap (first_at size_of (is_block_at address) 16) is
          ∙ first_at-found size_of (is_block_at address) 16 passed (Used bs) m.after (none_below address 16 passed room (omega arith))
          (eqb_same address (16 + total size_of passed + 4) (omega arith));
      size_fits = m.size_fits;
      least = m.least;
      multiple = rw es mult;
    }

block_is : (size : ℕ) (u : Bool) (x : Segment) → HereIs size u x → u ≡ true → (bs : List ℕ) × (x ≡ Used bs) × (size ≡ 4 + length bs)
block_is size true (Used bs) (used_here _ e) t = (bs, refl, e)
block_is size false (Hole n) (hole_here _ e) t = absurd cc
block_is size true (Hole n) k t = elim k [ ]
block_is size false (Used bs) k t = elim k [ ]

pub found_block : (at : ℕ) (h : Heap) (address : ℕ) (spot : Spot) → IsTidy false h.segments → 4 ≤ address → FoundSegment at h (address - 4) spot → spot.used
    ≡ true
    → FoundBlock at h address spot
found_block at h address spot t l f e =
    let k = block_is spot.size spot.used f.met.here f.met.here_is e in
    found_block_at at h address spot t l f k.0 k.1 k.2

pub found_hole : (at : ℕ) (h : Heap) (address : ℕ) (spot : Spot) → IsTidy false h.segments → 4 ≤ address → FoundSegment at h (address - 4) spot → spot.used
    ≡ false
    → block_at address h ≡ None
found_hole at h address spot t l f e =
    let m = f.met in
    let here = hole_is spot.size spot.used m.here m.here_is e in
    let n = spot.size in
    let r = m.reached in
    let passed = r.front ++ r.gap in
    let is : h.segments ≡ passed ++ Hole n ∷ m.after = r.is ∙ ap (λ l. passed ++ l) (m.rest_is ∙ ap (λ x. x ∷ m.after) here) in
    let tidy = subst (IsTidy false) is t in
    let rooms = HasRoom-append passed (Hole n ∷ m.after) (HasRoom-from_tidy false (passed ++ Hole n ∷ m.after) tidy) in
    let big = rooms.1.0 in
    let p = r.place_is in
    let q = f.place_is in
    ap (first_at size_of (is_block_at address) 16) is
    ∙ first_at-none size_of (is_block_at address) 16 (passed ++ Hole n ∷ m.after)
    (NonePass-append size_of (is_block_at address) 16 passed (Hole n ∷ m.after) (none_below address 16 passed rooms.0 (omega arith))
    (refl, none_above address (16 + total size_of passed + n) m.after (omega arith)))
