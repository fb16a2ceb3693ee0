-- Whether bytes lie in a block, by the segment round the place before them or by the marks of a map.
use Rattle.rh_heap.proofs.Common.{◌≡◌, ℕ, ◌+◌, ◌-◌, ◌*◌, ◌/◌, ◌%◌, ◌<◌, ◌≤◌, inl, inr, Bool, true, false, List, [], ◌∷◌, ◌++◌, length, refl, sym, ap, subst}
use Rattle.rh_heap.proofs.Common.{◌∙◌, arith, cases_lt, is_some, ◌&&◌, nat_le, word, total, first_at, is_inside, NonePass, Segment, Used, Hole, Heap, IsTidy}
use Rattle.rh_heap.proofs.Common.{size_of, Spells, HasRoom-from_tidy, HasRoom-append, NonePass-append, first_at-none, first_at-found, leb_no, HereIs}
use Rattle.rh_heap.proofs.Common.{used_here, hole_here, Spot, HasRoom, bit, used_at, IsIndex, USED, LastBit}
use Rattle.rh_defs.specs.Heap.{is_around, block_around}
use Rattle.rh_heap.specs.Inner.SegmentsAround.{Around}
use Rattle.rh_heap.proofs.WalkLaws.{parts_of}
use Rattle.rh_heap.proofs.StartLaws.{once_same, used_at-append, used_at-low, HasUnits, units_of, units-append, units-total, UsedHere}

and_no : (s t : Bool) → t ≡ false → (s && t) ≡ false
and_no true t e = e
and_no false t e = refl

-- blocks above the address
none_above : (x n p : ℕ) (ss : List Segment) → x < p + 4 → NonePass size_of (is_around x n) p ss
none_above x n p [] l = tt
none_above x n p (Used bs ∷ ss) l =
    (ap (λ s. s && nat_le (x + n) (p + 4 + length bs)) (leb_no (p + 4) x l), none_above x n (p + (4 + length bs)) ss (omega arith))
none_above x n p (Hole m ∷ ss) l = (refl, none_above x n (p + m) ss (omega arith))

-- and blocks that end below it
none_below : (x n p : ℕ) (ss : List Segment) → HasRoom ss → p + total size_of ss < x → NonePass size_of (is_around x n) p ss
none_below x n p [] r l = tt
none_below x n p (Used bs ∷ ss) r l = (
  and_no (nat_le (p + 4) x) (nat_le (x + n) (p + 4 + length bs)) (leb_no (x + n) (p + 4 + length bs) (omega arith)),
  none_below x n (p + (4 + length bs)) ss r (omega arith),
)
none_below x n p (Hole m ∷ ss) r l = (refl, none_below x n (p + m) ss r.1 (omega arith))

pub held_below : (h : Heap) (x n : ℕ) → x < 20 → is_some (block_around x n h) ≡ false
held_below h x n l = ap (λ o. is_some o) (first_at-none size_of (is_around x n) 16 h.segments (none_above x n 16 h.segments (omega arith)))

pub held_above : (b : List ℕ) (at : ℕ) (h : Heap) (x n base' : ℕ) → Spells b at h → base' ≡ word b (at + 8) → base' + 4 ≤ x
    → is_some (block_around x n h) ≡ false
held_above b at h x n base' s e l =
    let eb = s.base in
    ap (λ o. is_some o) (first_at-none size_of (is_around x n) 16 h.segments
    (none_below x n 16 h.segments (HasRoom-from_tidy false h.segments s.heap.tidy) (omega arith)))

-- what the segment at its place says of the bytes
around_here : (x n place size : ℕ) (u : Bool) (g : Segment) → HereIs size u g → is_around x n place g ≡ (u && is_inside x n (place + 4) (size - 4))
around_here x n place size true (Used bs) (used_here _ e) = ap (is_inside x n (place + 4)) (let i : length bs ≡ size - 4 = omega arith in i)
around_here x n place size false (Hole m) (hole_here _ e) = refl
around_here x n place size true (Hole m) k = elim k [ ]
around_here x n place size false (Used bs) k = elim k [ ]

-- where none of the other segments holds the bytes, this one says whether any does
around_by : (x n p : ℕ) (xs : List Segment) (g : Segment) (ys : List Segment) (t : Bool)
    → NonePass size_of (is_around x n) p xs → NonePass size_of (is_around x n) (p + total size_of xs + size_of g) ys
    → is_around x n (p + total size_of xs) g ≡ t → is_some (first_at size_of (is_around x n) p (xs ++ g ∷ ys)) ≡ t
around_by x n p xs g ys true low high e = ap (λ o. is_some o) (first_at-found size_of (is_around x n) p xs g ys low e)
around_by x n p xs g ys false low high e =
    ap (λ o. is_some o) (first_at-none size_of (is_around x n) p (xs ++ g ∷ ys)
    (NonePass-append size_of (is_around x n) p xs (g ∷ ys) low (e, high)))

pub held_here : (at : ℕ) (h : Heap) (x n : ℕ) (spot : Spot) → IsTidy false h.segments → 4 ≤ x → Around at h (x - 4) spot
    → is_some (block_around x n h) ≡ (spot.used && is_inside x n (spot.place + 4) (spot.size - 4))
held_here at h x n spot t l a =
    let m = a.met in
    let xs = m.reached.front ++ m.reached.gap in
    let parts = parts_of at h spot t m in
    let p = m.reached.place_is in
    let low = a.from_on in
    let up = a.up_to in
    let z = parts.size in
    let e = ap (λ q. is_around x n q m.here) (let i : 16 + total size_of xs ≡ spot.place = omega arith in i)
    ∙ around_here x n spot.place spot.size spot.used m.here m.here_is in
    ap (λ ss. is_some (first_at size_of (is_around x n) 16 ss)) parts.is
    ∙ around_by x n 16 xs m.here m.after (spot.used && is_inside x n (spot.place + 4) (spot.size - 4))
    (none_below x n 16 xs parts.room (omega arith)) (none_above x n (16 + total size_of xs + size_of m.here) m.after (omega arith)) e

-- ---- by a map

-- where no used segment begins 4 below an address or lower, none holds bytes there
none_marked : (x n p : ℕ) (ss : List Segment) → HasUnits ss → p % 8 ≡ 0
    → ((j : ℕ) → 8 * j + 4 ≤ x → used_at (8 * j) p ss ≡ 0) → NonePass size_of (is_around x n) p ss
none_marked x n p [] u m z = tt
none_marked x n p (Used bs ∷ ss) u m z = elim (cases_lt x (p + 4)) [
  | inl l ↦ none_above x n p (Used bs ∷ ss) l
  | inr l ↦ absurd (let one = once_same (8 * (p / 8)) p (omega arith) in let none = z (p / 8) (omega arith) in omega arith)
]
none_marked x n p (Hole k ∷ ss) u m z = let e = u.0 in (refl, none_marked x n (p + k) ss u.1 (omega arith) z)

-- where a map has no mark of a used segment 4 below an address or lower, no block holds bytes there
pub held_unmarked : (starts : List ℕ) (h : Heap) (x n : ℕ) → IsTidy false h.segments → IsIndex starts h
    → ((j : ℕ) → j < (x - 4) / 8 + 1 → bit USED starts j ≡ 0) → is_some (block_around x n h) ≡ false
held_unmarked starts h x n t i z =
    let none = none_marked x n 16 h.segments (units_of false h.segments t) refl (λ j l. sym (i.used j) ∙ z j (omega arith)) in
    ap (λ o. is_some o) (first_at-none size_of (is_around x n) 16 h.segments none)

-- the used segment with the last mark 4 below an address or lower says whether a block holds bytes there
pub held_marked : (starts : List ℕ) (h : Heap) (x n k : ℕ) → IsTidy false h.segments → IsIndex starts h → 4 ≤ x
    → LastBit USED starts ((x - 4) / 8 + 1) k → (u : UsedHere (8 * k) 16 h.segments)
    → is_some (block_around x n h) ≡ is_inside x n (8 * k + 4) (length u.bytes)
held_marked starts h x n k t i low l u =
    let place = u.place in
    let up = l.below in
    let rest = Used u.bytes ∷ u.after in
    let next = 16 + total size_of u.before + (4 + length u.bytes) in
    let units = units-append u.before rest (subst HasUnits u.is (units_of false h.segments t)) in
    let even = units-total u.before units.0 in
    let whole = units.1.0 in
    let room = (HasRoom-append u.before rest (subst HasRoom u.is (HasRoom-from_tidy false h.segments t))).0 in
    ap (λ ss. is_some (first_at size_of (is_around x n) 16 ss)) u.is
    ∙ around_by x n 16 u.before (Used u.bytes) u.after (is_inside x n (8 * k + 4) (length u.bytes))
    (none_below x n 16 u.before room (omega arith))
    (none_marked x n next u.after units.1.1 (omega arith) (λ j le. elim (cases_lt (8 * j) next) [
      | inl less ↦ used_at-low (8 * j) next u.after less
      | inr on ↦
          let all = ap (used_at (8 * j) 16) u.is ∙ used_at-append (8 * j) 16 u.before rest in
          omega (arith, i.used j, all, l.none j (omega arith) (omega arith))
    ]))
    (ap (λ q. is_inside x n (q + 4) (length u.bytes)) (sym place))
