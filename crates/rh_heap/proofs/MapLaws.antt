-- The walk that makes a map: the marks are those of the segments that it has passed.
use Rattle.rh_heap.proofs.Common.{◌≡◌, ◌≢◌, ℕ, ◌+◌, ◌*◌, ◌/◌, ◌%◌, ◌<◌, ◌≤◌, inl, inr, false, List, [], ◌∷◌, ◌++◌, length, replicate, get_or, refl, sym, ap}
use Rattle.rh_heap.proofs.Common.{subst, ◌∙◌, append-nil, arith, cases_eq, cases_lt, length-replicate, word, total, Segment, Used, Hole, Heap, IsTidy}
use Rattle.rh_heap.proofs.Common.{size_of, base, Spells, HasRoom, LinksTo, HasRoom-from_tidy, HasRoom-append, total-append, no_segments, Reached, bit, once}
use Rattle.rh_heap.proofs.Common.{used_at, hole_at, IsIndex, Became, USED, HOLES, BITS}
use Rattle.std.specs.Int.{bit_at}
use Rattle.std.proofs.lemmas.List.{get_or-replicate, get_or_past}
use Rattle.std.proofs.lemmas.Nat.Bits.{bit_at-zero}
use Rattle.rh_heap.proofs.ListLaws.{NextSegment, next_used, next_hole, next_segment_at}
use Rattle.rh_heap.proofs.WalkLaws.{reached_start}
use Rattle.rh_heap.proofs.StartLaws.{once_same, once_apart, used_at-append, hole_at-append, used_at-high, hole_at-high, units_of, units-append, units-total}

-- the map has the marks of the segments before a place
pub record Mapped (starts : List ℕ) (at : ℕ) (h : Heap) (from place : ℕ) : Type 0 where
  pub link : ℕ
  pub low : ℕ
  pub reached : Reached at h link low from place
  pub used : (j : ℕ) → bit USED starts j ≡ used_at (8 * j) 16 (reached.front ++ reached.gap)
  pub holes : (j : ℕ) → bit HOLES starts j ≡ hole_at (8 * j) 16 (reached.front ++ reached.gap)

-- a map of zeros marks none
pub no_bits : (lane n j : ℕ) → bit lane (replicate n 0) j ≡ 0
no_bits lane n j = ap (λ w. bit_at w (j % BITS)) (zero_at n (2 * (j / BITS) + lane)) ∙ bit_at-zero (j % BITS)
  where
    zero_at : (n i : ℕ) → get_or {A = ℕ} (replicate n 0) i 0 ≡ 0
    zero_at n i = elim (cases_lt i n) [
      | inl l ↦ get_or-replicate {A = ℕ} n i 0 0 l
      | inr l ↦ get_or_past (replicate n 0) i 0 (omega (arith, length-replicate {A = ℕ} n 0))
    ]

pub mapped_start : (starts : List ℕ) (n at : ℕ) (h : Heap) → starts ≡ replicate n 0 → Mapped starts at h 4 16
mapped_start starts n at h e = record {
  link = 4;
  low = 16;
  reached = reached_start at h;
  used = λ j. ap (λ l. bit USED l j) e ∙ no_bits USED n j;
  holes = λ j. ap (λ l. bit HOLES l j) e ∙ no_bits HOLES n j;
}

-- where the walk goes on from a place, for the size that is read there
pub record MapTurn (b starts : List ℕ) (at : ℕ) (h : Heap) (from place next : ℕ) : Type 0 where
  pub room : place + 8 ≤ base h
  pub hole : next ≡ place → (size : ℕ) → size ≡ word b (at + (place + 4)) → (new : List ℕ) → Became HOLES (place / 8) 1 starts new
      → Mapped new at h place (place + size) × (8 ≤ size)
  pub used : next ≢ place → (size : ℕ) → size ≡ word b (at + place) → (new : List ℕ) → Became USED (place / 8) 1 starts new
      → Mapped new at h from (place + size) × (8 ≤ size)

module _ (starts : List ℕ) (passed : List Segment) (place : ℕ) (at_place : place ≡ 16 + total size_of passed) (even : place % 8 ≡ 0)
    (used : (j : ℕ) → bit USED starts j ≡ used_at (8 * j) 16 passed) (holes : (j : ℕ) → bit HOLES starts j ≡ hole_at (8 * j) 16 passed) (new : List ℕ) where
  more_used : (bs : List ℕ) → Became USED (place / 8) 1 starts new → (j : ℕ)
      → (bit USED new j ≡ used_at (8 * j) 16 (passed ++ Used bs ∷ [])) × (bit HOLES new j ≡ hole_at (8 * j) 16 (passed ++ Used bs ∷ []))
  more_used bs b j =
      let here = ap (once (8 * j)) at_place in (
        elim (cases_eq j (place / 8)) [
          | inl same ↦
              let p : 8 * j ≡ place = omega arith in
              ap (bit USED new) same ∙ b.here
              ∙ omega (arith, used_at-append (8 * j) 16 passed (Used bs ∷ []), once_same (8 * j) place p, used_at-high (8 * j) 16 passed (omega arith))
          | inr apart ↦ omega (arith, b.same j apart, used j, used_at-append (8 * j) 16 passed (Used bs ∷ []), once_apart (8 * j) place (omega arith))
        ],
        omega (arith, b.other HOLES j (omega arith) (omega arith), holes j, hole_at-append (8 * j) 16 passed (Used bs ∷ [])),
      )

  more_hole : (n : ℕ) → HasRoom passed → Became HOLES (place / 8) 1 starts new → (j : ℕ)
      → (bit USED new j ≡ used_at (8 * j) 16 (passed ++ Hole n ∷ [])) × (bit HOLES new j ≡ hole_at (8 * j) 16 (passed ++ Hole n ∷ []))
  more_hole n room b j =
      let here = ap (once (8 * j)) at_place in (
        omega (arith, b.other USED j (omega arith) (omega arith), used j, used_at-append (8 * j) 16 passed (Hole n ∷ [])),
        elim (cases_eq j (place / 8)) [
          | inl same ↦
              let p : 8 * j ≡ place = omega arith in
              ap (bit HOLES new) same ∙ b.here
              ∙ omega (
                arith,
                hole_at-append (8 * j) 16 passed (Hole n ∷ []),
                once_same (8 * j) place p,
                hole_at-high (8 * j) 16 passed room (omega arith),
              )
          | inr apart ↦ omega (arith, b.same j apart, holes j, hole_at-append (8 * j) 16 passed (Hole n ∷ []), once_apart (8 * j) place (omega arith))
        ],
      )

map_turn_at : (b starts : List ℕ) (at : ℕ) (h : Heap) (from place next : ℕ) (m : Mapped starts at h from place) → HasRoom (m.reached.front ++ m.reached.gap)
    → place % 8 ≡ 0 → (rest : List Segment)
    → NextSegment b at h from place next (m.reached.front ++ m.reached.gap) rest → MapTurn b starts at h from place next
map_turn_at b starts at h from place next m room even [] x = elim x [ ]
map_turn_at b starts at h from place next m room even (Used bs ∷ ys) (next_used _ _ off read fits least on cut) =
    let passed = m.reached.front ++ m.reached.gap in
    let p = m.reached.place_is in
    record {
      room = omega arith;
      hole = λ here. absurd (off here);
      used = λ ne size es new c.
          let more = more_used starts passed place p even m.used m.holes new bs c in (
            subst (λ i. Mapped new at h from (place + i)) (sym (es ∙ read)) (record {
              link = from;
              low = place + (4 + length bs);
              reached = on;
              used = λ j. (more j).0 ∙ ap (used_at (8 * j) 16) (sym cut);
              holes = λ j. (more j).1 ∙ ap (hole_at (8 * j) 16) (sym cut);
            }),
            omega arith,
          );
    }
map_turn_at b starts at h from place next m room even (Hole n ∷ ys) (next_hole _ _ there read fits least on cut) =
    let passed = m.reached.front ++ m.reached.gap in
    let p = m.reached.place_is in
    record {
      room = omega arith;
      used = λ off. absurd (off there);
      hole = λ here size es new c.
          let more = more_hole starts passed place p even m.used m.holes new n room c in (
            subst (λ i. Mapped new at h place (place + i)) (sym (es ∙ read)) (record {
              link = from;
              low = place;
              reached = on;
              used = λ j. (more j).0 ∙ ap (used_at (8 * j) 16) (sym cut);
              holes = λ j. (more j).1 ∙ ap (hole_at (8 * j) 16) (sym cut);
            }),
            omega arith,
          );
    }

pub map_turn : (b starts : List ℕ) (at : ℕ) (h : Heap) (from place next : ℕ) → Spells b at h → Mapped starts at h from place → LinksTo b at (at + from) next
    → place < base h → MapTurn b starts at h from place next
map_turn b starts at h from place next s m k lt =
    let r = m.reached in
    let passed = r.front ++ r.gap in
    let p = r.place_is in
    let tidy = subst (IsTidy false) r.is s.heap.tidy in
    let units = units-total passed (units-append passed r.rest (units_of false (passed ++ r.rest) tidy)).0 in
    map_turn_at b starts at h from place next m (HasRoom-append passed r.rest (HasRoom-from_tidy false (passed ++ r.rest) tidy)).0 (omega arith) r.rest
    (next_segment_at b at h m.link m.low from place next r r.rest refl s k lt)

-- at the base all are passed
pub mapped_all : (starts : List ℕ) (at : ℕ) (h : Heap) (from place : ℕ) → IsTidy false h.segments → Mapped starts at h from place → base h ≤ place
    → h.end ≤ 512 * (length starts / 2) → IsIndex starts h
mapped_all starts at h from place t m le long =
    let r = m.reached in
    let passed = r.front ++ r.gap in
    let room = (HasRoom-append passed r.rest (HasRoom-from_tidy false (passed ++ r.rest) (subst (IsTidy false) r.is t))).1 in
    let p = r.place_is in
    let sums = ap (total size_of) r.is ∙ total-append passed r.rest in
    let none = no_segments r.rest room (omega arith) in
    let all : h.segments ≡ passed = r.is ∙ ap (λ l. passed ++ l) none ∙ append-nil passed in
    record {
      long = long;
      used = λ j. m.used j ∙ ap (used_at (8 * j) 16) (sym all);
      holes = λ j. m.holes j ∙ ap (hole_at (8 * j) 16) (sym all);
    }
