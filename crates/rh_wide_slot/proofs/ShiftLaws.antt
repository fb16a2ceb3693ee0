-- What a slide leaves: the slot, and every block.
use Rattle.rh_wide_slot.proofs.Common.{◌≡◌, ◌≢◌, ℕ, ◌+◌, ◌-◌, ◌*◌, ◌%◌, ◌<◌, ◌≤◌, inl, inr, Bool, List, length, get_or, refl, sym, ap, ◌∙◌, arith}
use Rattle.rh_wide_slot.proofs.Common.{cases_lt, word, part, with_part, length-put, length-part, put_below, part_same}
use Rattle.rh_wide_slot.proofs.Common.{IsWideSlot, row_place, row_size, end_of, slides_if, row_block, any_moved, any_from}
use Rattle.rh_wide_slot.proofs.Common.{IsClear, Shifts, ToldBelow, moved_place, WideSlot}
use Rattle.rh_wide_slot.proofs.Common.{cases_eq}
use Rattle.rh_defs.proofs.BytesLaws.{part-part, part-put_inside, part_none, word-put_below}
use Rattle.rh_wide_slot.proofs.EntryLaws.{any_shifted, moved_at, none_from, rests_at, same_block}

-- the anchors' words are told first, and then the bytes move
module _ (b m c : List ℕ) (s : WideSlot) (from to : ℕ) (table : 8 * s.anchors ≤ from) (low : 8 * s.anchors ≤ to) (high : from ≤ s.top)
    (top : s.top ≤ length b) (fit : to + (s.top - from) ≤ length b) (told : ToldBelow b m from to s.anchors) (n : ℕ) (n_is : n ≡ s.top - from)
    (now : c ≡ with_part m to (part m from n)) where
  shift_len : length c ≡ length b
  shift_len = ap length now ∙ length-put m to (part m from n) ∙ told.len

  below : (p : ℕ) → p + 4 ≤ 8 * s.anchors → word c p ≡ word m p
  below p h = ap (λ l. word l p) now ∙ word-put_below m to (part m from n) p (omega arith)

  shift_places : (j : ℕ) → j < s.anchors → row_place c j ≡ moved_place from to (row_place b j)
  shift_places j l = below (8 * j) (omega arith) ∙ told.places j l

  shift_sizes : (j : ℕ) → j < s.anchors → row_size c j ≡ row_size b j
  shift_sizes j l = below (8 * j + 4) (omega arith) ∙ told.sizes j l

  shift_low : (i : ℕ) → 8 * s.anchors ≤ i → i < from → i < to → get_or c i 0 ≡ get_or b i 0
  shift_low i h f t = ap (λ l. get_or l i 0) now ∙ put_below m to (part m from n) i t ∙ told.above i h

  shift_parts : (p k : ℕ) → from ≤ p → p + k ≤ s.top → part c (to + (p - from)) k ≡ part b p k
  shift_parts p k f h =
      let len = told.len in
      let long = length-part m from n in
      let back : from + (p - from) ≡ p = omega arith in
      ap (λ l. part l (to + (p - from)) k) now
      ∙ part-put_inside m to (part m from n) (to + (p - from)) (p - from) k refl (omega arith) (omega arith)
      ∙ part-part m from n (p - from) k (omega arith)
      ∙ ap (λ i. part m i k) back
      ∙ part_same b m p k (record { each = λ i x y. told.above i (omega arith) })

  pub shift_is : (moved : Bool) → moved ≡ any_from from s.anchors b → Shifts b c s
      (record { base = s.base; top = to + (s.top - from); anchors = s.anchors; slides = slides_if moved s.slides }) from to
  shift_is moved e = record {
    len = shift_len;
    places = shift_places;
    sizes = shift_sizes;
    low = shift_low;
    parts = shift_parts;
    anchors = refl;
    base = refl;
    top = refl;
    slides = ap (λ x. slides_if x s.slides) e;
  }

-- where nothing lies from the place on, the top alone has moved
pub shift_none : (b : List ℕ) (s : WideSlot) (from to : ℕ) → IsWideSlot b s → 8 * s.anchors ≤ from → from ≡ s.top → Shifts b b s
    (record { base = s.base; top = to; anchors = s.anchors; slides = s.slides }) from to
shift_none b s from to w table e =
    let count = w.count.0 in
    let below : (j : ℕ) → j < s.anchors → row_place b j < from = λ j l. elim (cases_eq (row_place b j) 0) [
      | inl z ↦ omega arith
      | inr d ↦ (let high = w.high j l d in omega arith)
    ] in
    record {
      len = refl;
      places = λ j l. sym (rests_at from to (row_place b j) (below j l));
      sizes = λ j l. refl;
      low = λ i h f t. refl;
      parts = λ p n f h. (
          let z : n ≡ 0 = omega arith in
          ap (part b (to + (p - from))) z ∙ part_none b (to + (p - from)) ∙ sym (ap (part b p) z ∙ part_none b p)
          );
      anchors = refl;
      base = refl;
      top = omega arith;
      slides = sym (ap (λ x. slides_if x s.slides) (none_from from s.anchors b below));
    }

module _ (b c : List ℕ) (s t : WideSlot) (from to : ℕ) (w : IsWideSlot b s) (clear : IsClear b s.anchors from to) (h : Shifts b c s t from to)
    (low : s.base ≤ from) (low_to : s.base ≤ to) (high : from ≤ s.top) (fit : to + (s.top - from) ≤ length b) (whole : from % 8 ≡ 0)
    (whole_to : to % 8 ≡ 0) where
  -- a block has moved, or stays below
  data Site (k : ℕ) : Type 0 where
    up : from ≤ row_place b k → row_place c k ≡ to + (row_place b k - from) → Site k
    rests : row_place b k < from → row_place c k ≡ row_place b k → Site k

  site : (k : ℕ) → k < s.anchors → Site k
  site k l = elim (cases_lt (row_place b k) from) [
    | inl x ↦ rests x (h.places k l ∙ rests_at from to (row_place b k) x)
    | inr x ↦ up x (h.places k l ∙ moved_at from to (row_place b k) x)
  ]

  -- the words are behind the first 512 bytes
  pub base_up : 0 < s.base
  base_up = let count = w.count.0 in let table = w.table in omega arith

  ends_low : (k : ℕ) → k < s.anchors → row_place b k ≢ 0 → row_place b k < from → (end_of b k ≤ from) × (end_of b k ≤ to)
  ends_low k l d x = elim (clear k l d) [ inl e ↦ e | inr g ↦ absurd (omega arith) ]

  new_low : (k : ℕ) → k < s.anchors → row_place c k ≢ 0 → s.base ≤ row_place c k
  new_low k l d = elim (site k l) [
    | up x e ↦ omega arith
    | rests x e ↦ (let o = w.low k l (λ z. d (e ∙ z)) in omega arith)
  ]

  new_high : (k : ℕ) → k < s.anchors → row_place c k ≢ 0 → end_of c k ≤ to + (s.top - from)
  new_high k l d =
      let size = h.sizes k l in
      let up0 = base_up in
      elim (site k l) [
        | up x e ↦ (let o = w.high k l (λ z. absurd (omega arith)) in omega arith)
        | rests x e ↦ (let o = (ends_low k l (λ z. d (e ∙ z)) x).1 in omega arith)
      ]

  new_whole : (k : ℕ) → k < s.anchors → row_place c k % 8 ≡ 0
  new_whole k l = let o = w.whole k l in elim (site k l) [ up x e ↦ omega arith | rests x e ↦ omega arith ]

  new_apart : (j k : ℕ) → j < s.anchors → k < s.anchors → j ≢ k → row_place c j ≢ 0 → row_place c k ≢ 0 → row_place c j ≤ row_place c k
      → end_of c j ≤ row_place c k
  new_apart j k lj lk d nj nk le =
      let size = h.sizes j lj in
      let up0 = base_up in
      elim (site j lj) [
        | up x e ↦ elim (site k lk) [
          | up y f ↦ (let o = w.apart j k lj lk d (λ z. absurd (omega arith)) (λ z. absurd (omega arith)) (omega arith) in omega arith)
          | rests y f ↦ (let o = (ends_low k lk (λ z. nk (f ∙ z)) y).1 in absurd (omega arith))
        ]
        | rests x e ↦ elim (site k lk) [
          | up y f ↦ (let o = (ends_low j lj (λ z. nj (e ∙ z)) x).1 in omega arith)
          | rests y f ↦ (let o = w.apart j k lj lk d (λ z. nj (e ∙ z)) (λ z. nk (f ∙ z)) (omega arith) in omega arith)
        ]
      ]

  pub shift_slot : IsWideSlot c t
  shift_slot =
      let count = w.count in
      let table = w.table in
      let up0 = w.up in
      let within = w.within in
      let few = w.few in
      let len = h.len in
      let top = h.top in
      let base = h.base in
      let anchors = h.anchors in
      let wb = w.whole_base in
      let wt = w.whole_top in
      let in_s : (k : ℕ) → k < t.anchors → k < s.anchors = λ k l. omega arith in
      record {
        few = omega arith;
        count = (omega (arith, count.0), omega (arith, count.1));
        table = omega arith;
        up = omega arith;
        within = omega arith;
        whole_base = omega arith;
        whole_top = omega arith;
        whole = λ k l. new_whole k (in_s k l);
        low = λ k l d. (let o = new_low k (in_s k l) d in omega arith);
        high = λ k l d. (let o = new_high k (in_s k l) d in omega arith);
        apart = λ j k lj lk d nj nk le. new_apart j k (in_s j lj) (in_s k lk) d nj nk le;
      }

  pub shift_blocks : (k : ℕ) → k < s.anchors → row_block c k ≡ row_block b k
  shift_blocks k l =
      let up0 = base_up in
      let table = w.table in
      elim (site k l) [
        | up x e ↦ (
            let o = w.high k l (λ z. absurd (omega arith)) in
            same_block b c k (λ z. absurd (omega arith)) (λ d z. absurd (omega arith)) (h.sizes k l)
            (λ d. ap (λ i. part c i (row_size b k)) e ∙ h.parts (row_place b k) (row_size b k) x (omega arith))
            )
        | rests x e ↦ same_block b c k (λ z. e ∙ z) (λ d z. d (sym e ∙ z)) (h.sizes k l)
            (λ d. let o = ends_low k l d x in let o0 = o.0 in let o1 = o.1 in let p = w.low k l d in
            ap (λ i. part c i (row_size b k)) e
            ∙ part_same b c (row_place b k) (row_size b k) (record { each = λ i y z. h.low i (omega arith) (omega arith) (omega arith) }))
      ]

  -- the slides are counted
  pub shift_moved : from ≢ to → any_from from s.anchors b ≡ any_moved s.anchors b c
  shift_moved d = let up0 = base_up in sym (any_shifted from to s.anchors b c (omega arith) (omega arith) d h.places)
