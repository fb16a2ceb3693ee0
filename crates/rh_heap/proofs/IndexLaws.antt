-- What a map tells of a heap, and what keeps it the heap's map.
use Rattle.rh_heap.proofs.Common.{◌≡◌, ◌≢◌, ℕ, ◌+◌, ◌-◌, ◌*◌, ◌/◌, ◌%◌, ◌<◌, ◌≤◌, inl, inr, Bool, true, false, List, [], ◌∷◌, ◌++◌, length, get_or, refl, sym}
use Rattle.rh_heap.proofs.Common.{ap, subst, ◌∙◌, append_assoc, arith, None, cases_lt, append-nil, word, total, first_at, NonePass, Segment, Used, Hole, Heap}
use Rattle.rh_heap.proofs.Common.{IsTidy, size_of, base, is_block_at, block_at, Stand, Spells, HasRoom, LinksTo, last_link, HasRoom-from_tidy, HasRoom-append}
use Rattle.rh_heap.proofs.Common.{total-append, tidy_before, tidy_behind_used, first_at-none, first_at-found, eqb_same, no_segments, HasNone, USED, HOLES, BITS}
use Rattle.rh_heap.proofs.Common.{last_link-append, last_link-none, Stand-split, GapIs, no_gap, a_gap, FoundBlock, bit, used_at, hole_at, IsIndex, LastBit}
use Rattle.std.proofs.lemmas.Nat.Bits.{bit_at-lt}
use Rattle.rh_defs.proofs.HeapStretch.{Await-from_link}
use Rattle.rh_heap.specs.HeapStarts.{LinkBelow, no_hole, a_hole}
use Rattle.rh_heap.proofs.StartLaws.{hole_at-append, hole_at-low, hole_at-before_first, used_at-high, hole_at-high, HasUnits, units_of, units-append}
use Rattle.rh_heap.proofs.StartLaws.{units-total, unmarked, off_units, UsedHere, used_here, no_holes, LastOf, last_of}

-- ---- what the map tells

below_two : (n : ℕ) → n < 2 → n ≢ 1 → n ≡ 0
below_two n l ne = omega arith

-- no block where no bit is set
pub not_marked : (starts : List ℕ) (h : Heap) (address : ℕ) → IsIndex starts h → 4 ≤ address → (address - 4) % 8 ≡ 0
    → bit USED starts ((address - 4) / 8) ≢ 1 → block_at address h ≡ None
not_marked starts h address i l m ne =
    let p = address - 4 in
    let e : 8 * (p / 8) ≡ p = omega arith in
    let same : p + 4 ≡ address = omega arith in
    let u : bit USED starts (p / 8) ≡ used_at p 16 h.segments = i.used (p / 8) ∙ ap (λ q. used_at q 16 h.segments) e in
    let few = bit_at-lt (get_or starts (2 * (p / 8 / BITS) + USED) 0) (p / 8 % BITS) in
    let z : used_at p 16 h.segments ≡ 0 = sym u ∙ below_two (bit USED starts (p / 8)) few ne in
    first_at-none size_of (is_block_at address) 16 h.segments (subst (λ a. NonePass size_of (is_block_at a) 16 h.segments) same (unmarked p 16 h.segments z))

-- nor at a place that is no multiple of 8
pub not_there : (h : Heap) (address : ℕ) → IsTidy false h.segments → 4 ≤ address → (address - 4) % 8 ≢ 0 → block_at address h ≡ None
not_there h address t l ne =
    let same : address - 4 + 4 ≡ address = omega arith in
    first_at-none size_of (is_block_at address) 16 h.segments
    (subst (λ a. NonePass size_of (is_block_at a) 16 h.segments) same (off_units (address - 4) 16 h.segments (units_of false h.segments t) refl ne))

-- no hole is marked below a place that isn't above the first one
pub none_below_first : (starts : List ℕ) (b : List ℕ) (at : ℕ) (h : Heap) (place x : ℕ) → IsIndex starts h → Spells b at h → LinksTo b at (at + 4) x
    → (x ≢ 0 → place ≤ x) → (j : ℕ) → j < place / 8 → bit HOLES starts j ≡ 0
none_below_first starts b at h place x i s l f j small =
    i.holes j ∙ hole_at-before_first b at x (8 * j) 16 h.segments (omega arith)
    (Await-from_link b at (at + 4) x (at + 16) h.segments (omega arith) (omega arith) l s.stand) (λ ne. let m = f ne in omega arith)

-- the segments round a block whose bit is set
pub marked : (starts : List ℕ) (h : Heap) (place : ℕ) → IsIndex starts h → place % 8 ≡ 0 → bit USED starts (place / 8) ≡ 1 → UsedHere place 16 h.segments
marked starts h place i m o =
    let e : 8 * (place / 8) ≡ place = omega arith in
    used_here place 16 h.segments (ap (λ q. used_at q 16 h.segments) (sym e) ∙ sym (i.used (place / 8)) ∙ o)

-- the segments round the block that the last mark below a bound stands for
pub last_used : (starts : List ℕ) (h : Heap) (n k : ℕ) → IsIndex starts h → LastBit USED starts n k → UsedHere (8 * k) 16 h.segments
last_used starts h n k i l = used_here (8 * k) 16 h.segments (sym (i.used k) ∙ l.is_set)

-- the last link in segments
pub data LastLink (link : ℕ) (xs : List Segment) : Type 0 where
  none_before : link ≡ 4 → HasNone xs → LastLink link xs
  one_before : LastOf link 16 xs → LastLink link xs

module _ (starts : List ℕ) (h : Heap) (i : IsIndex starts h) (t : IsTidy false h.segments) (xs ys : List Segment) (is : h.segments ≡ xs ++ ys) (place : ℕ)
    (at : place ≡ 16 + total size_of xs) where
  private_units : HasUnits xs
  private_units = (units-append xs ys (subst HasUnits is (units_of false h.segments t))).0

  private_room : HasRoom xs
  private_room = (HasRoom-append xs ys (subst HasRoom is (HasRoom-from_tidy false h.segments t))).0

  holes_in : (j : ℕ) → bit HOLES starts j ≡ hole_at (8 * j) 16 xs + hole_at (8 * j) (16 + total size_of xs) ys
  holes_in j = i.holes j ∙ ap (hole_at (8 * j) 16) is ∙ hole_at-append (8 * j) 16 xs ys

  none_in : (j : ℕ) → (8 * j < place → bit HOLES starts j ≡ 0) → hole_at (8 * j) 16 xs ≡ 0
  none_in j f = elim (cases_lt (8 * j) place) [
    | inl l ↦ omega (arith, holes_in j, f l)
    | inr l ↦ hole_at-high (8 * j) 16 xs private_room (omega arith)
  ]

  pub link_of : (link : ℕ) → LinkBelow starts place link → LastLink link xs
  link_of link k =
      let even = units-total xs private_units in
      elim k [
        | no_hole e z ↦ none_before e (no_holes 16 xs private_units refl (λ j. none_in j (λ l. z j (omega arith))))
        | a_hole n e l ↦
            let below = l.below in
            one_before (subst (λ p. LastOf p 16 xs) (sym e) (last_of (8 * n) 16 xs private_units refl
            (omega (arith, holes_in n, l.is_set, hole_at-low (8 * n) (16 + total size_of xs) ys (omega arith)))
            (λ j over. none_in j (λ less. l.none j (omega arith) (omega arith)))))
      ]

-- the link is where the bytes have it
pub link_at : (at link : ℕ) (xs : List Segment) → HasRoom xs → LastLink link xs
    → (at + link ≡ last_link (at + 4) (at + 16) xs) × (link + 4 ≤ 16 + total size_of xs)
link_at at link xs r k = elim k [
  | none_before e n ↦ (omega (arith, last_link-none (at + 4) (at + 16) xs n), omega arith)
  | one_before l ↦
      let n = l.size in
      let p = l.place in
      let q = at + 16 + total size_of l.front in
      let big = (HasRoom-append l.front (Hole n ∷ l.behind) (subst HasRoom l.is r)).1.0 in
      let sums = ap (total size_of) l.is ∙ total-append l.front (Hole n ∷ l.behind) in (
        omega (
          arith,
          ap (last_link (at + 4) (at + 16)) l.is ∙ last_link-append (at + 4) (at + 16) l.front (Hole n ∷ l.behind) ∙ last_link-none q (q + n) l.behind l.none,
        ),
        omega arith,
      )
]

-- segments without a hole, or with a used one behind their last hole, are tidy up to there
none_tidy : (us ys : List Segment) → HasNone us → IsTidy false (us ++ ys) → IsTidy false us
none_tidy [] ys n t = tt
none_tidy (Used bs ∷ us) ys n t = (t.0, none_tidy us ys n t.1)
none_tidy (Hole m ∷ us) ys n t = absurd n

some_tidy : (a : Bool) (f : List Segment) (m : ℕ) (bs : List ℕ) (us ys : List Segment) → HasNone us → IsTidy a (f ++ Hole m ∷ Used bs ∷ (us ++ ys))
    → IsTidy a (f ++ Hole m ∷ Used bs ∷ us)
some_tidy false [] m bs us ys n t = (t.0, t.1, (t.2.0, none_tidy us ys n t.2.1))
some_tidy true [] m bs us ys n t = absurd t
some_tidy false (Used cs ∷ f) m bs us ys n t = (t.0, some_tidy false f m bs us ys n t.1)
some_tidy true (Used cs ∷ f) m bs us ys n t = (t.0, some_tidy false f m bs us ys n t.1)
some_tidy false (Hole k ∷ f) m bs us ys n t = (t.0, t.1, some_tidy true f m bs us ys n t.2)
some_tidy true (Hole k ∷ f) m bs us ys n t = absurd t

-- ---- the block that is found
module _ (b : List ℕ) (at : ℕ) (h : Heap) (s : Spells b at h) (place : ℕ) (u : UsedHere place 16 h.segments) where
  -- its size is read
  pub size_read : word b (at + place) ≡ 4 + length u.bytes
  size_read =
      let parts = Stand-split b (at + 4) (at + 16) u.before (Used u.bytes ∷ u.after) (subst (Stand b (at + 4) (at + 16)) u.is s.stand) in
      ap (word b) (let e = u.place in omega arith) ∙ parts.1.0

  pub size_room : place + 8 ≤ base h
  size_room =
      let e = u.place in
      let all = ap (total size_of) u.is ∙ total-append u.before (Used u.bytes ∷ u.after) in
      let mult = (tidy_behind_used false u.before u.bytes u.after (subst (IsTidy false) u.is s.heap.tidy)).0 in
      omega arith

  found_from : (size link low from : ℕ) (front gap : List Segment) → u.before ≡ front ++ gap → size ≡ 4 + length u.bytes → GapIs low place link from gap
      → low ≡ 16 + total size_of front
      → at + link ≡ last_link (at + 4) (at + 16) front → at + from ≡ last_link (at + 4) (at + 16) (front ++ gap) → IsTidy false front → link + 4 ≤ low
      → from + 4 ≤ place → FoundBlock at h (place + 4) (record { place = place; size = size; used = true; from = from; low = low; link = link })
  found_from size link low from front gap cut es gap_is low_is link_is from_is tidy link_below behind =
      let passed = front ++ gap in
      let is : h.segments ≡ passed ++ Used u.bytes ∷ u.after = u.is ∙ ap (λ l. l ++ Used u.bytes ∷ u.after) cut in
      let there : place ≡ 16 + total size_of passed = u.place ∙ ap (λ l. 16 + total size_of l) cut in
      let all = ap (total size_of) is ∙ total-append passed (Used u.bytes ∷ u.after) in
      let mult = (tidy_behind_used false passed u.bytes u.after (subst (IsTidy false) is s.heap.tidy)).0 in
      record {
        reached = record {
          front = front;
          gap = gap;
          rest = Used u.bytes ∷ u.after;
          is = is;
          gap_is = gap_is;
          low_is = low_is;
          link_is = link_is;
          place_is = there;
          from_is = from_is;
          tidy = tidy;
          link_below = link_below;
          behind = behind;
          inside = omega arith;
        };
        bytes = u.bytes;
        after = u.after;
        rest_is = refl;
        size_is = es;
        address_is = refl;
        found = ap (first_at size_of (is_block_at (place + 4)) 16) is
            ∙ first_at-found size_of (is_block_at (place + 4)) 16 passed (Used u.bytes) u.after
            (unmarked place 16 passed (used_at-high place 16 passed (omega arith))) (eqb_same (place + 4) (16 + total size_of passed + 4) (omega arith));
        size_fits = omega arith;
        least = omega arith;
        multiple = rw es mult;
      }

  -- no hole stands just before it
  found_plain : (size from : ℕ) → size ≡ 4 + length u.bytes → LastLink from u.before → IsTidy false u.before
      → FoundBlock at h (place + 4) (record { place = place; size = size; used = true; from = from; low = place; link = from })
  found_plain size from es k tidy =
      let room = (HasRoom-append u.before (Used u.bytes ∷ u.after) (subst HasRoom u.is (HasRoom-from_tidy false h.segments s.heap.tidy))).0 in
      let links = link_at at from u.before room k in
      let there = u.place in
      found_from size from place from u.before [] (sym (append-nil u.before)) es (no_gap refl refl) there links.0
      (links.0 ∙ ap (last_link (at + 4) (at + 16)) (sym (append-nil u.before))) tidy
      (omega (arith, links.1)) (omega (arith, links.1))

  pub found_alone : (size : ℕ) → size ≡ 4 + length u.bytes → HasNone u.before
      → FoundBlock at h (place + 4) (record { place = place; size = size; used = true; from = 4; low = place; link = 4 })
  found_alone size es none =
      found_plain size 4 es (none_before refl none) (none_tidy u.before (Used u.bytes ∷ u.after) none (subst (IsTidy false) u.is s.heap.tidy))

  -- the size of the last hole before it is read
  pub hole_read : (from : ℕ) (l : LastOf from 16 u.before) → word b (at + (from + 4)) ≡ l.size
  hole_read from l =
      let rest = l.behind ++ Used u.bytes ∷ u.after in
      let is : h.segments ≡ l.front ++ Hole l.size ∷ rest =
      u.is ∙ ap (λ x. x ++ Used u.bytes ∷ u.after) l.is ∙ append_assoc l.front (Hole l.size ∷ l.behind) (Used u.bytes ∷ u.after) in
      let parts = Stand-split b (at + 4) (at + 16) l.front (Hole l.size ∷ rest) (subst (Stand b (at + 4) (at + 16)) is s.stand) in
      ap (word b) (let e = l.place in omega arith) ∙ parts.1.1

  pub hole_room : (from : ℕ) → LastOf from 16 u.before → (from + 8 ≤ place) × (16 ≤ from) × (from % 8 ≡ 0)
  hole_room from l =
      let room = HasRoom-append u.before (Used u.bytes ∷ u.after) (subst HasRoom u.is (HasRoom-from_tidy false h.segments s.heap.tidy)) in
      let big = (HasRoom-append l.front (Hole l.size ∷ l.behind) (subst HasRoom l.is room.0)).1.0 in
      let units = units-append u.before (Used u.bytes ∷ u.after) (subst HasUnits u.is (units_of false h.segments s.heap.tidy)) in
      let even = units-total l.front (units-append l.front (Hole l.size ∷ l.behind) (subst HasUnits l.is units.0)).0 in
      let sums = ap (total size_of) l.is ∙ total-append l.front (Hole l.size ∷ l.behind) in
      let e = u.place in
      let f = l.place in
      (omega arith, omega arith, omega arith)

  -- the hole stands just before it
  pub found_behind : (size from link : ℕ) (l : LastOf from 16 u.before) → size ≡ 4 + length u.bytes → from + word b (at + (from + 4)) ≡ place
      → LastLink link l.front → FoundBlock at h (place + 4) (record { place = place; size = size; used = true; from = from; low = from; link = link })
  found_behind size from link l es touches k =
      let read = hole_read from l in
      let room = (HasRoom-append u.before (Used u.bytes ∷ u.after) (subst HasRoom u.is (HasRoom-from_tidy false h.segments s.heap.tidy))).0 in
      let rooms = HasRoom-append l.front (Hole l.size ∷ l.behind) (subst HasRoom l.is room) in
      let sums = ap (total size_of) l.is ∙ total-append l.front (Hole l.size ∷ l.behind) in
      let e = u.place in
      let f = l.place in
      let none = no_segments l.behind rooms.1.1 (omega arith) in
      let cut : u.before ≡ l.front ++ Hole l.size ∷ [] = l.is ∙ ap (λ x. l.front ++ Hole l.size ∷ x) none in
      let links = link_at at link l.front rooms.0 k in
      let tidy = tidy_before false l.front l.size (l.behind ++ Used u.bytes ∷ u.after)
      (subst (IsTidy false) (u.is ∙ ap (λ x. x ++ Used u.bytes ∷ u.after) l.is ∙ append_assoc l.front (Hole l.size ∷ l.behind) (Used u.bytes ∷ u.after))
      s.heap.tidy) in
      found_from size link from from l.front (Hole l.size ∷ []) cut es (a_gap l.size (omega arith) refl) f links.0
      (omega (arith, last_link-append (at + 4) (at + 16) l.front (Hole l.size ∷ []))) tidy (omega (arith, links.1)) (let big = rooms.1.0 in omega arith)

  -- or it doesn't
  pub found_apart : (size from : ℕ) (l : LastOf from 16 u.before) → size ≡ 4 + length u.bytes → from + word b (at + (from + 4)) ≢ place
      → FoundBlock at h (place + 4) (record { place = place; size = size; used = true; from = from; low = place; link = from })
  found_apart size from l es apart =
      let is : h.segments ≡ (l.front ++ Hole l.size ∷ l.behind) ++ Used u.bytes ∷ u.after = u.is ∙ ap (λ x. x ++ Used u.bytes ∷ u.after) l.is in
      let sums = ap (total size_of) l.is ∙ total-append l.front (Hole l.size ∷ l.behind) in
      let e = u.place in
      let f = l.place in
      let read = hole_read from l in
      found_plain size from es (one_before l) (subst (IsTidy false) (sym l.is) (go l.behind l.none (λ z. apart (omega (arith, ap (total size_of) z)))
      (subst (IsTidy false) (is ∙ append_assoc l.front (Hole l.size ∷ l.behind) (Used u.bytes ∷ u.after)) s.heap.tidy)))
    where
      go : (us : List Segment) → HasNone us → us ≢ [] → IsTidy false (l.front ++ Hole l.size ∷ (us ++ Used u.bytes ∷ u.after))
          → IsTidy false (l.front ++ Hole l.size ∷ us)
      go [] n ne t = absurd (ne refl)
      go (Used bs ∷ us) n ne t = some_tidy false l.front l.size bs us (Used u.bytes ∷ u.after) n t
      go (Hole m ∷ us) n ne t = absurd n

  -- the last link is below the block, and so is its hole
  pub link_room : (link : ℕ) → LastLink link u.before → (link + 8 ≤ place) × (link ≢ 4 → link % 8 ≡ 0)
  link_room link k =
      let e = u.place in
      elim k [
        | none_before f n ↦ (omega arith, λ ne. absurd (ne f))
        | one_before l ↦ let r = hole_room link l in (r.0, λ ne. r.2)
      ]

  pub link_fits : (link : ℕ) → LastLink link u.before → link ≢ 4 → link + word b (at + (link + 4)) ≤ place
  link_fits link k ne = elim k [
    | none_before f n ↦ absurd (ne f)
    | one_before l ↦
        let read = hole_read link l in
        let sums = ap (total size_of) l.is ∙ total-append l.front (Hole l.size ∷ l.behind) in
        let e = u.place in
        let f = l.place in
        omega arith
  ]

  -- the block by its last link, and where that is a hole that ends there by the link before it
  pub found_touching : (starts : List ℕ) → IsIndex starts h → (size from link : ℕ) → LastLink from u.before → word b (at + place) ≡ size
      → (from ≢ 4) × (from + word b (at + (from + 4)) ≡ place) → LinkBelow starts from link
      → FoundBlock at h (place + 4) (record { place = place; size = size; used = true; from = from; low = from; link = link })
  found_touching starts i size from link k read both below = elim k [
    | none_before f n ↦ absurd (both.0 f)
    | one_before l ↦
        let rest = l.behind ++ Used u.bytes ∷ u.after in
        let is : h.segments ≡ l.front ++ Hole l.size ∷ rest =
        u.is ∙ ap (λ x. x ++ Used u.bytes ∷ u.after) l.is ∙ append_assoc l.front (Hole l.size ∷ l.behind) (Used u.bytes ∷ u.after) in
        found_behind size from link l (sym read ∙ size_read) both.1 (link_of starts h i s.heap.tidy l.front (Hole l.size ∷ rest) is from l.place link below)
  ]

  pub found_clear : (size from : ℕ) → LastLink from u.before → word b (at + place) ≡ size → (from ≢ 4 → from + word b (at + (from + 4)) ≢ place)
      → FoundBlock at h (place + 4) (record { place = place; size = size; used = true; from = from; low = place; link = from })
  found_clear size from k read apart = elim k [
    | none_before f n ↦ subst (λ i. FoundBlock at h (place + 4) (record { place = place; size = size; used = true; from = i; low = place; link = i }))
        (sym f) (found_alone size (sym read ∙ size_read) n)
    | one_before l ↦ found_apart size from l (sym read ∙ size_read) (apart (let r = hole_room from l in let a = r.1 in omega arith))
  ]
