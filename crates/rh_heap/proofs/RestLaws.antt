-- The segments that an iterator has left.
use Rattle.rh_heap.proofs.Common.{◌≡◌, ℕ, ◌+◌, ◌-◌, ◌≤◌, ◌≢◌, inl, inr, Bool, true, false, List, [], ◌∷◌, length, refl, sym, ap, subst, ◌∙◌, arith, word}
use Rattle.rh_heap.proofs.Common.{total, Segment, Used, Hole, size_of, Stand, HasRoom-from_tidy, listed, HasRoom}
use Rattle.rh_defs.specs.HeapImage.{IsImage, heap_of}
use Rattle.rh_defs.proofs.HeapLaws.{segments_in-Stand, link_ahead}
use Rattle.rh_defs.specs.HeapParts.{IsRest, rest_in}

-- segments that stand there are those that are left
pub is_rest : (b : List ℕ) (base from place : ℕ) (ss : List Segment) → Stand b from place ss → HasRoom ss → place + total size_of ss ≡ base → base ≤ length b
    → from + 4 ≤ place → IsRest b base from place × (rest_in b base from place ≡ ss)
is_rest b base from place ss h r e w a =
    let same : rest_in b base from place ≡ ss = segments_in-Stand (length b) b from place (base - place) ss (omega arith) r (omega arith) (omega arith) h in (
      record {
        stand = subst (Stand b from place) (sym same) h;
        room = subst HasRoom (sym same) r;
        ends = ap (λ l. place + total size_of l) same ∙ e;
        within = w;
        ahead = a;
      },
      same,
    )

-- the first of them
pub data FirstIs (b : List ℕ) (base from place : ℕ) : Type 0 where
  no_more : place ≡ base → rest_in b base from place ≡ [] → FirstIs b base from place
  a_used : (bs : List ℕ) → place ≢ base → from + word b from ≢ place → word b place ≡ 4 + length bs → place + (4 + length bs) ≤ base
      → IsRest b base from (place + (4 + length bs)) → rest_in b base from place ≡ Used bs ∷ rest_in b base from (place + (4 + length bs))
      → FirstIs b base from place
  a_hole : (n : ℕ) → place ≢ base → from + word b from ≡ place → word b (place + 4) ≡ n → place + 8 ≤ base → place + n ≤ base
      → IsRest b base place (place + n) → rest_in b base from place ≡ Hole n ∷ rest_in b base place (place + n) → FirstIs b base from place

first_is_of : (b : List ℕ) (base from place : ℕ) (ss : List Segment) → rest_in b base from place ≡ ss → Stand b from place ss → HasRoom ss
    → place + total size_of ss ≡ base → base ≤ length b → from + 4 ≤ place → FirstIs b base from place
first_is_of b base from place [] is h r e w a = no_more (omega arith) is
first_is_of b base from place (Used bs ∷ ss) is h r e w a =
    let off : from + word b from ≢ place =
    elim (link_ahead b from (place + (4 + length bs)) ss (omega arith) h.2) [ inl z ↦ omega arith | inr l ↦ omega arith ] in
    let next = is_rest b base from (place + (4 + length bs)) ss h.2 r (omega arith) w (omega arith) in
    a_used bs (omega arith) off h.0 (omega arith) next.0 (is ∙ ap (λ l. Used bs ∷ l) (sym next.1))
first_is_of b base from place (Hole n ∷ ss) is h r e w a =
    let big = r.0 in
    let next = is_rest b base place (place + n) ss h.2 r.1 (omega arith) w (omega arith) in
    a_hole n (omega arith) h.0 h.1 (omega arith) (omega arith) next.0 (is ∙ ap (λ l. Hole n ∷ l) (sym next.1))

pub first_is : (b : List ℕ) (base from place : ℕ) → IsRest b base from place → FirstIs b base from place
first_is b base from place r = first_is_of b base from place (rest_in b base from place) refl r.stand r.room r.ends r.within r.ahead

-- at the start all are left
pub all_left : (b : List ℕ) (base : ℕ) → IsImage b (heap_of b 0) → base ≡ word b 8 → IsRest b base 4 16 × (rest_in b base 4 16 ≡ (heap_of b 0).segments)
all_left b base i e =
    let s = i.spells in
    let w = i.whole in
    let f = s.heap.fits in
    let eb = s.base in
    is_rest b base 4 16 (heap_of b 0).segments s.stand (HasRoom-from_tidy false (heap_of b 0).segments s.heap.tidy) (omega arith) (omega arith) (omega arith)

-- ---- what the iterator gives
pub given_end : (b : List ℕ) (base from place : ℕ) → IsRest b base from place → place ≡ base → listed place (rest_in b base from place) ≡ []
given_end b base from place r e = elim (first_is b base from place r) [
  | no_more _ none ↦ ap (listed place) none
  | a_used bs ne _ _ _ _ _ ↦ absurd (ne e)
  | a_hole n ne _ _ _ _ _ _ ↦ absurd (ne e)
]

-- a segment with its place is given, and the others are left
pub record Gives (b : List ℕ) (base from place from' size : ℕ) (used : Bool) : Type 0 where
  pub fits : place + size ≤ base
  pub rest : IsRest b base from' (place + size)
  pub gives : listed place (rest_in b base from place) ≡ record { place = place; size = size; used = used } ∷ listed (place + size)
      (rest_in b base from' (place + size))

pub record HoleTurn (b : List ℕ) (base from place : ℕ) : Type 0 where
  pub room : place + 8 ≤ length b
  pub given : (size : ℕ) → size ≡ word b (place + 4) → Gives b base from place place size false

pub hole_turn : (b : List ℕ) (base from place link : ℕ) → IsRest b base from place → place ≢ base → link ≡ word b from → from + link ≡ place
    → HoleTurn b base from place
hole_turn b base from place link r ne e here = elim (first_is b base from place r) [
  | no_more at none ↦ absurd (ne at)
  | a_used bs _ off _ _ _ _ ↦ absurd (off (omega arith))
  | a_hole n _ _ read room fits rest is ↦
      let w = r.within in
      record {
        room = omega arith;
        given = λ size es. subst (λ i. Gives b base from place place i false) (sym (es ∙ read))
            (record { fits = fits; rest = rest; gives = ap (listed place) is });
      }
]

pub record UsedTurn (b : List ℕ) (base from place : ℕ) : Type 0 where
  pub room : place + 4 ≤ length b
  pub given : (size : ℕ) → size ≡ word b place → Gives b base from place from size true

pub used_turn : (b : List ℕ) (base from place link : ℕ) → IsRest b base from place → place ≢ base → link ≡ word b from → from + link ≢ place
    → UsedTurn b base from place
used_turn b base from place link r ne e off = elim (first_is b base from place r) [
  | no_more at none ↦ absurd (ne at)
  | a_hole n _ here _ _ _ _ _ ↦ absurd (off (omega arith))
  | a_used bs _ _ read room rest is ↦
      let w = r.within in
      record {
        room = omega arith;
        given = λ size es. subst (λ i. Gives b base from place from i true) (sym (es ∙ read))
            (record { fits = room; rest = rest; gives = ap (listed place) is });
      }
]
