-- What each call leaves of a slot, from its steps.
use Rattle.rh_wide_slot.proofs.Common.{◌≡◌, ◌≢◌, ℕ, ◌+◌, ◌-◌, ◌*◌, ◌%◌, ◌^◌, ◌<◌, ◌≤◌, ◌==◌, ◌⊎◌, inl, inr, false, not, ◌&&◌, List, ◌++◌}
use Rattle.rh_wide_slot.proofs.Common.{nat_lt, nat_tests, length, get_or, take, drop, replicate, refl, sym, ap, ◌∙◌, arith, Option, Some}
use Rattle.rh_wide_slot.proofs.Common.{None, cases_eq, cases_lt, word, part, with_part}
use Rattle.rh_wide_slot.proofs.Common.{length-put, length-part, length-replicate, put_below, put_above, part_same}
use Rattle.rh_wide_slot.proofs.Common.{IsWideSlot, Leaves, row_place, row_size, end_of, wide_weight, taken_by, has_moved, slides_if, row_block, any_moved}
use Rattle.rh_wide_slot.proofs.Common.{any_from, Edits, IsClear, Shifts, with_entry, SameIn, WideSlot}
use Rattle.rh_defs.specs.Pieces.{written, zeros}
use Rattle.rh_defs.proofs.BytesLaws.{part_more, part-put, part-put_below, part-put_above, part-put_zeros, put_zeros_below, put_zeros_above}
use Rattle.rh_defs.proofs.BytesLaws.{word-put_below, word-put_inside, word-zeros}
use Rattle.rh_wide_slot.specs.WideCalls.{Budged}
use Rattle.rh_wide_slot.specs.WideSlots.{IsAnchorCount}
use Rattle.rh_wide_slot.proofs.EntryLaws.{entry_len, entry_place, entry_places, entry_sizes, entry_bytes, no_block, a_block, same_block}
use Rattle.rh_wide_slot.proofs.EntryLaws.{any_same, none_moved, still_at, new_at, gone_at, moved_at, rests_at}
use Rattle.rh_wide_slot.proofs.EditLaws.{beside, entry_edits, edit_slot, edit_others, edit_own, edit_below, take_part, drop_part}
use Rattle.rh_wide_slot.proofs.ShiftLaws.{shift_slot, shift_blocks, shift_moved}

-- ---- counting

-- nothing has moved
pub counts_none : (n slides : ℕ) (b c : List ℕ) → ((j : ℕ) → j < n → has_moved b c j ≡ false) → slides ≡ slides_if (any_moved n b c) slides
counts_none n slides b c h = sym (ap (λ x. slides_if x slides) (none_moved n b c h))

-- places that are the same count the same
same_after : (n : ℕ) (b m c : List ℕ) → ((j : ℕ) → j < n → row_place c j ≡ row_place m j) → any_moved n b m ≡ any_moved n b c
same_after n b m c h = any_same n b m b c (λ j l. ap (λ p. not (row_place b j == 0) && not (p == 0) && not (row_place b j == p)) (sym (h j l)))

same_before : (n : ℕ) (b m c : List ℕ) → ((j : ℕ) → j < n → row_place m j ≡ row_place b j) → any_moved n m c ≡ any_moved n b c
same_before n b m c h = any_same n m c b c (λ j l. ap (λ p. not (p == 0) && not (row_place c j == 0) && not (p == row_place c j)) (h j l))

taken_by_block : (b : List ℕ) (k : ℕ) → row_place b k ≢ 0 → taken_by (row_block b k) ≡ wide_weight (row_size b k)
taken_by_block b k d = ap taken_by (a_block b k d) ∙ ap wide_weight (length-part b (row_place b k) (row_size b k))

-- a test of room that fails
pub not_less : (x y : ℕ) → nat_lt x y ≡ false → y ≤ x
not_less x y h = grind (arith, nat_tests)

-- ---- no block at all

module _ (b c : List ℕ) (n : ℕ) (few : length b ≤ 2 ^ 30) (count : IsAnchorCount n) (room : 8 * n ≤ length b)
    (zeroed : c ≡ with_part b 0 (replicate (8 * n) 0)) where
  start_place : (k : ℕ) → k < n → row_place c k ≡ 0
  start_place k l =
      let long = length-replicate {A = ℕ} (8 * n) 0 in
      ap (λ l. word l (8 * k)) zeroed ∙ word-put_inside b 0 (replicate (8 * n) 0) (8 * k) (8 * k) (omega arith) (omega arith) (omega arith)
      ∙ word-zeros (8 * n) (8 * k) (omega arith)

  pub start_empty : (k : ℕ) → k < n → row_block c k ≡ None
  start_empty k l = no_block c k (start_place k l)

  pub start_slot : IsWideSlot c (record { base = 8 * n; top = 8 * n; anchors = n; slides = 0 })
  start_slot =
      let len = ap length zeroed ∙ length-put b 0 (replicate (8 * n) 0) in
      record {
        few = omega arith;
        count = count;
        table = omega arith;
        up = omega arith;
        within = omega arith;
        whole_base = omega arith;
        whole_top = omega arith;
        whole = λ k l. (let z = start_place k l in omega arith);
        low = λ k l u. absurd (u (start_place k l));
        high = λ k l u. absurd (u (start_place k l));
        apart = λ j k lj lk d u v le. absurd (u (start_place j lj));
      }

-- ---- a new block

module _ (b m c : List ℕ) (s : WideSlot) (k n taken : ℕ) (w : IsWideSlot b s) (lk : k < s.anchors) (none : row_place b k ≡ 0)
    (taken_is : taken ≡ wide_weight n) (fit : s.top + wide_weight n ≤ length b) (zeroed : m ≡ with_part b s.top (replicate n 0))
    (told : c ≡ with_entry m k s.top n) where
  abbrev grown : WideSlot
  grown = record { base = s.base; top = s.top + taken; anchors = s.anchors; slides = s.slides }

  new_edits : Edits b c k s.top n s.top (s.top + n)
  new_edits =
      let table = w.table in
      let up = w.up in
      let few = w.few in
      entry_edits b m c k s.top n s.top (s.top + n) (omega arith) (ap length zeroed ∙ length-put b s.top (replicate n 0)) (omega arith) (omega arith)
      (λ i h. ap (λ l. get_or l i 0) zeroed ∙ put_zeros_below b s.top n i h)
      (λ i h. ap (λ l. get_or l i 0) zeroed ∙ put_zeros_above b s.top n i h) told

  new_clear : (j : ℕ) → j < s.anchors → j ≢ k → row_place b j ≢ 0 → (end_of b j ≤ s.top) ⊎ (s.top + wide_weight n ≤ row_place b j)
  new_clear j l d u = inl (w.high j l u)

  new_bytes : part c s.top n ≡ zeros n
  new_bytes =
      let table = w.table in
      let up = w.up in
      let len = length-put b s.top (replicate n 0) in
      let room : 8 * k + 8 ≤ length m = omega (arith, ap length zeroed, len) in
      part_same m c s.top n (record { each = λ i x y. ap (λ l. get_or l i 0) told ∙ entry_bytes m k s.top n room i (omega arith) })
      ∙ ap (λ l. part l s.top n) zeroed ∙ part-put_zeros b s.top n (omega arith)

  pub alloc_leaves : Leaves b c s grown k (Some (zeros n))
  alloc_leaves =
      let e = new_edits in
      let wt = w.whole_top in
      let whole_top : (s.top + taken) % 8 ≡ 0 = omega arith in
      let up = w.up in
      let still = edit_slot b c s grown k s.top n (s.top + n) (wide_weight n) w lk e refl refl (omega arith) (omega arith) whole_top up wt (omega arith)
      (omega arith) (omega arith) new_clear in
      record {
        still = still;
        len = e.len;
        block_is = edit_own b c s grown k s.top n (s.top + n) (wide_weight n) w lk e refl refl (omega arith) (omega arith) whole_top up wt (omega arith)
            (omega arith) (omega arith) new_clear ∙ ap Some new_bytes;
        others = edit_others b c s grown k s.top n (s.top + n) (wide_weight n) w lk e refl refl (omega arith) (omega arith) whole_top up wt (omega arith)
            (omega arith) (omega arith) new_clear;
        anchors = refl;
        base = refl;
        top = (let none_taken = ap taken_by (no_block b k none) in let z : taken_by (Some (zeros n)) ≡ wide_weight n =
            ap wide_weight (length-replicate {A = ℕ} n 0) in omega arith);
        slides = counts_none s.anchors s.slides b c (λ j l. elim (cases_eq j k) [
          | inl q ↦ new_at b c j (ap (row_place b) q ∙ none)
          | inr d ↦ still_at b c j (let table = w.table in sym (e.places j (omega arith) d))
        ]);
        below = edit_below b c s grown k s.top n (s.top + n) (wide_weight n) w lk e refl refl (omega arith) (omega arith) whole_top up wt (omega arith)
            (omega arith) (omega arith) new_clear;
      }

  pub alloc_place : s.top ≡ row_place c k
  alloc_place = sym new_edits.place_is

-- ---- bytes of a block

module _ (b c : List ℕ) (s : WideSlot) (k place size : ℕ) (w : IsWideSlot b s) (lk : k < s.anchors) (used : row_place b k ≢ 0)
    (place_is : place ≡ row_place b k) (size_is : size ≡ row_size b k) where
  beside_all : (j : ℕ) → j < s.anchors → j ≢ k → row_place b j ≢ 0 → (end_of b j ≤ place) ⊎ (place + wide_weight size ≤ row_place b j)
  beside_all j l d u = elim (beside b s j k w l lk d u used) [ inl x ↦ inl (omega arith) | inr x ↦ inr (omega arith) ]

  -- the block's size changes by no more than its own room has
  module _ (new : ℕ) (e : Edits b c k place new place (place + new)) (fits : wide_weight new ≤ wide_weight size) where
    pub kept_slot : IsWideSlot c s
    kept_slot =
        let low = w.low k lk used in
        let high = w.high k lk used in
        let whole = w.whole k lk in
        edit_slot b c s s k place new (place + new) (wide_weight size) w lk e refl refl (omega arith) w.within w.whole_top (omega arith) (omega arith) fits
        (omega arith) (omega arith) beside_all

    pub kept_others : (j : ℕ) → j < s.anchors → j ≢ k → row_block c j ≡ row_block b j
    kept_others =
        let low = w.low k lk used in
        let high = w.high k lk used in
        let whole = w.whole k lk in
        edit_others b c s s k place new (place + new) (wide_weight size) w lk e refl refl (omega arith) w.within w.whole_top (omega arith) (omega arith) fits
        (omega arith) (omega arith) beside_all

    pub kept_own : row_block c k ≡ Some (part c place new)
    kept_own =
        let low = w.low k lk used in
        let high = w.high k lk used in
        let whole = w.whole k lk in
        edit_own b c s s k place new (place + new) (wide_weight size) w lk e refl refl (omega arith) w.within w.whole_top (omega arith) (omega arith) fits
        (omega arith) (omega arith) beside_all

    pub kept_below : SameIn b c (8 * s.anchors) s.base
    kept_below = let low = w.low k lk used in record { each = λ i x y. e.below i (omega arith) (omega arith) }

    pub kept_places : (j : ℕ) → j < s.anchors → row_place c j ≡ row_place b j
    kept_places j l = elim (cases_eq j k) [
      | inl q ↦ ap (row_place c) q ∙ e.place_is ∙ place_is ∙ ap (row_place b) (sym q)
      | inr d ↦ (let low = w.low k lk used in let table = w.table in e.places j (omega arith) d)
    ]

    pub kept_leaves : (block : List ℕ) → part c place new ≡ block → wide_weight new ≡ wide_weight size → Leaves b c s s k (Some block)
    kept_leaves block is same = record {
      still = kept_slot;
      len = e.len;
      block_is = kept_own ∙ ap Some is;
      others = kept_others;
      anchors = refl;
      base = refl;
      top = (let x = taken_by_block b k used in let y : length block ≡ new = ap length (sym is) ∙ length-part c place new in
          let z : wide_weight (length block) ≡ wide_weight new = ap wide_weight y in
          let v : wide_weight size ≡ wide_weight (row_size b k) = ap wide_weight size_is in omega arith);
      slides = counts_none s.anchors s.slides b c (λ j l. still_at b c j (sym (kept_places j l)));
      below = kept_below;
    }

  -- bytes written into it
  module _ (offset : ℕ) (from : List ℕ) (fit : offset + length from ≤ size) (now : c ≡ with_part b (place + offset) from) where
    put_edits : Edits b c k place size place (place + size)
    put_edits =
        let low = w.low k lk used in
        let table = w.table in
        let stays : (p : ℕ) → p + 4 ≤ place → word c p ≡ word b p =
        λ p h. ap (λ l. word l p) now ∙ word-put_below b (place + offset) from p (omega arith) in
        record {
          len = ap length now ∙ length-put b (place + offset) from;
          place_is = stays (8 * k) (omega arith) ∙ sym place_is;
          size_is = stays (8 * k + 4) (omega arith) ∙ sym size_is;
          places = λ j h n. stays (8 * j) (omega arith);
          sizes = λ j h n. stays (8 * j + 4) (omega arith);
          below = λ i h g. ap (λ l. get_or l i 0) now ∙ put_below b (place + offset) from i (omega arith);
          above = λ i h g. ap (λ l. get_or l i 0) now ∙ put_above b (place + offset) from i (omega arith);
        }

    put_bytes : part c place size ≡ written (part b (row_place b k) (row_size b k)) offset from
    put_bytes =
        let high = w.high k lk used in
        let within = w.within in
        let all : size ≡ offset + (length from + (size - (offset + length from))) = omega arith in
        let back : place + offset + length from ≡ place + (offset + length from) = omega arith in
        let same : part b place size ≡ part b (row_place b k) (row_size b k) = ap (λ i. part b i size) place_is ∙ ap (part b (row_place b k)) size_is in
        let head : part c place offset ≡ take offset (part b (row_place b k) (row_size b k)) =
        ap (λ l. part l place offset) now ∙ part-put_below b (place + offset) from place offset (omega arith)
        ∙ sym (take_part b place size offset (omega arith)) ∙ ap (take offset) same in
        let mid : part c (place + offset) (length from) ≡ from =
        ap (λ l. part l (place + offset) (length from)) now ∙ part-put b (place + offset) from (length from) refl (omega arith) in
        let rest : part c (place + offset + length from) (size - (offset + length from))
        ≡ drop (offset + length from) (part b (row_place b k) (row_size b k)) =
        ap (λ l. part l (place + offset + length from) (size - (offset + length from))) now
        ∙ part-put_above b (place + offset) from (place + offset + length from) (size - (offset + length from)) (omega arith)
        ∙ ap (λ i. part b i (size - (offset + length from))) back
        ∙ sym (drop_part b place size (offset + length from) fit) ∙ ap (drop (offset + length from)) same in
        ap (part c place) all ∙ part_more c place offset (length from + (size - (offset + length from)))
        ∙ ap (λ l. part c place offset ++ l) (part_more c (place + offset) (length from) (size - (offset + length from)))
        ∙ ap (λ l. l ++ (part c (place + offset) (length from) ++ part c (place + offset + length from) (size - (offset + length from)))) head
        ∙ ap (λ l. take offset (part b (row_place b k) (row_size b k)) ++ (l ++ part c (place + offset + length from) (size - (offset + length from)))) mid
        ∙ ap (λ l. take offset (part b (row_place b k) (row_size b k)) ++ (from ++ l)) rest

    pub put_leaves : Leaves b c s s k (Some (written (part b (row_place b k) (row_size b k)) offset from))
    put_leaves = kept_leaves size put_edits (omega arith) (written (part b (row_place b k) (row_size b k)) offset from) put_bytes refl

-- ---- a block that gets longer: those above it slide first

module _ (b m c : List ℕ) (s t : WideSlot) (k place size new from to : ℕ) (w : IsWideSlot b s) (lk : k < s.anchors) (used : row_place b k ≢ 0)
    (place_is : place ≡ row_place b k) (size_is : size ≡ row_size b k) (from_is : from ≡ place + wide_weight size)
    (to_is : to ≡ place + wide_weight new) where
  pub grow_clear : from < to → IsClear b s.anchors from to
  grow_clear l j lj u = elim (cases_eq j k) [
    | inl q ↦ (
        let p : row_place b j ≡ row_place b k = ap (row_place b) q in
        let z : row_size b j ≡ row_size b k = ap (row_size b) q in
        inl (omega arith, omega arith)
        )
    | inr d ↦ elim (beside b s j k w lj lk d u used) [ inl x ↦ inl (omega arith, omega arith) | inr x ↦ inr (omega arith) ]
  ]

  module _ (less : from < to) (fit : to + (s.top - from) ≤ length b) (h : Shifts b m s t from to) (e : Edits m c k place new place (place + new)) where
    low_from : s.base ≤ from
    low_from = let low = w.low k lk used in omega arith

    high_from : from ≤ s.top
    high_from = let high = w.high k lk used in omega arith

    whole_from : from % 8 ≡ 0
    whole_from = let whole = w.whole k lk in omega arith

    whole_to : to % 8 ≡ 0
    whole_to = let whole = w.whole k lk in omega arith

    mid_slot : IsWideSlot m t
    mid_slot = let lf = low_from in shift_slot b m s t from to w (grow_clear less) h lf (omega arith) high_from fit whole_from whole_to

    mid_blocks : (j : ℕ) → j < s.anchors → row_block m j ≡ row_block b j
    mid_blocks = let lf = low_from in shift_blocks b m s t from to w (grow_clear less) h lf (omega arith) high_from fit whole_from whole_to

    beside_mid : (j : ℕ) → j < t.anchors → j ≢ k → row_place m j ≢ 0 → (end_of m j ≤ place) ⊎ (place + wide_weight new ≤ row_place m j)
    beside_mid j lt d u =
        let anchors = h.anchors in
        let l : j < s.anchors = omega arith in
        let lf = low_from in
        let count = w.count.0 in
        let table = w.table in
        let zs = h.sizes j l in
        elim (cases_eq (row_place b j) 0) [
          | inl z ↦ absurd (u (h.places j l ∙ rests_at from to (row_place b j) (omega arith) ∙ z))
          | inr v ↦ elim (beside b s j k w l lk d v used) [
            | inl x ↦ (let p = h.places j l ∙ rests_at from to (row_place b j) (omega arith) in inl (omega arith))
            | inr x ↦ (let p = h.places j l ∙ moved_at from to (row_place b j) (omega arith) in inr (omega arith))
          ]
        ]

    -- the block has not moved
    own_place : row_place m k ≡ place
    own_place = h.places k lk ∙ rests_at from to (row_place b k) (omega arith) ∙ sym place_is

    pub grow_leaves : (block : List ℕ) → part c place new ≡ block → Leaves b c s t k (Some block)
    grow_leaves block is =
        let wm = mid_slot in
        let anchors = h.anchors in
        let base = h.base in
        let top = h.top in
        let lf = low_from in
        let hf = high_from in
        let low = w.low k lk used in
        let whole = w.whole k lk in
        let table = w.table in
        let up : t.top ≤ length m = wm.within in
        let lkt : k < t.anchors = omega arith in
        let still = edit_slot m c t t k place new (place + new) (wide_weight new) wm lkt e refl refl (omega arith) up wm.whole_top (omega arith) (omega arith)
        (omega arith) (omega arith) (omega arith) beside_mid in
        let own = edit_own m c t t k place new (place + new) (wide_weight new) wm lkt e refl refl (omega arith) up wm.whole_top (omega arith) (omega arith)
        (omega arith) (omega arith) (omega arith) beside_mid in
        let rest = edit_others m c t t k place new (place + new) (wide_weight new) wm lkt e refl refl (omega arith) up wm.whole_top (omega arith) (omega arith)
        (omega arith) (omega arith) (omega arith) beside_mid in
        record {
          still = still;
          len = e.len ∙ h.len;
          block_is = own ∙ ap Some is;
          others = λ j l d. rest j (omega arith) d ∙ mid_blocks j l;
          anchors = anchors;
          base = base;
          top = (let x = taken_by_block b k used in let y : length block ≡ new = ap length (sym is) ∙ length-part c place new in
              let z : wide_weight (length block) ≡ wide_weight new = ap wide_weight y in
              let v : wide_weight size ≡ wide_weight (row_size b k) = ap wide_weight size_is in omega arith);
          slides = h.slides ∙ ap (λ x. slides_if x s.slides)
              (shift_moved b m s t from to w (grow_clear less) h lf (omega arith) hf fit whole_from whole_to (λ q. absurd (omega arith))
              ∙ same_after s.anchors b m c (λ j l. elim (cases_eq j k) [
                | inl q ↦ ap (row_place c) q ∙ e.place_is ∙ sym own_place ∙ ap (row_place m) (sym q)
                | inr d ↦ e.places j (omega arith) d
              ]));
          below = record { each = λ i x y. e.below i (omega arith) (omega arith) ∙ h.low i (omega arith) (omega arith) (omega arith) };
        }

    -- the block's bytes are as they were before the edit
    pub grow_bytes : part m place size ≡ part b place size
    grow_bytes =
        let low = w.low k lk used in
        let table = w.table in
        part_same b m place size (record { each = λ i x y. h.low i (omega arith) (omega arith) (omega arith) })

-- ---- a block that gets shorter, or goes: those above it slide last

module _ (b m c : List ℕ) (s t : WideSlot) (k place size from to : ℕ) (w : IsWideSlot b s) (lk : k < s.anchors) (used : row_place b k ≢ 0)
    (place_is : place ≡ row_place b k) (size_is : size ≡ row_size b k) (from_is : from ≡ place + wide_weight size) (less : to < from)
    (low_to : place ≤ to) (whole_to : to % 8 ≡ 0) (wm : IsWideSlot m s)
    (places : (j : ℕ) → j < s.anchors → j ≢ k → row_place m j ≡ row_place b j) (sizes : (j : ℕ) → j < s.anchors → j ≢ k → row_size m j ≡ row_size b j)
    (own : (row_place m k ≡ 0) ⊎ ((row_place m k ≡ place) × (end_of m k ≡ to))) where
  pub fall_clear : IsClear m s.anchors from to
  fall_clear j lj u = elim (cases_eq j k) [
    | inl q ↦ elim own [
      | inl z ↦ absurd (u (ap (row_place m) q ∙ z))
      | inr x ↦ (let e : end_of m j ≡ end_of m k = ap (end_of m) q in let y = x.1 in inl (omega arith, omega arith))
    ]
    | inr d ↦ (
        let p = places j lj d in
        let z = sizes j lj d in
        elim (beside b s j k w lj lk d (λ e. u (p ∙ e)) used) [ inl x ↦ inl (omega arith, omega arith) | inr x ↦ inr (omega arith) ]
        )
  ]

  module _ (h : Shifts m c s t from to) (len : length m ≡ length b) where
    fall_low : s.base ≤ place
    fall_low = let low = w.low k lk used in omega arith

    fall_high : from ≤ s.top
    fall_high = let high = w.high k lk used in omega arith

    fall_fit : to + (s.top - from) ≤ length m
    fall_fit = let high = fall_high in let within = w.within in omega arith

    fall_whole : from % 8 ≡ 0
    fall_whole = let whole = w.whole k lk in omega arith

    fall_blocks : (j : ℕ) → j < s.anchors → row_block c j ≡ row_block m j
    fall_blocks = let l = fall_low in shift_blocks m c s t from to wm fall_clear h (omega arith) (omega arith) fall_high fall_fit fall_whole whole_to

    fall_slot : IsWideSlot c t
    fall_slot = let l = fall_low in shift_slot m c s t from to wm fall_clear h (omega arith) (omega arith) fall_high fall_fit fall_whole whole_to

    fall_moved : any_from from s.anchors m ≡ any_moved s.anchors m c
    fall_moved =
        let l = fall_low in
        shift_moved m c s t from to wm fall_clear h (omega arith) (omega arith) fall_high fall_fit fall_whole whole_to (λ q. absurd (omega arith))

    pub fall_leaves : (block : Option (List ℕ)) → row_block m k ≡ block → from ≡ to + (wide_weight size - taken_by block)
        → taken_by block ≤ wide_weight size → ((j : ℕ) → j < s.anchors → j ≢ k → row_block m j ≡ row_block b j) → SameIn b m (8 * s.anchors) s.base
        → Leaves b c s t k block
    fall_leaves block is gap fits others below =
        let low = fall_low in
        let high = fall_high in
        let top = h.top in
        record {
          still = fall_slot;
          len = h.len ∙ len;
          block_is = fall_blocks k lk ∙ is;
          others = λ j l d. fall_blocks j l ∙ others j l d;
          anchors = h.anchors;
          base = h.base;
          top = (let x = taken_by_block b k used in let v : wide_weight size ≡ wide_weight (row_size b k) = ap wide_weight size_is in omega arith);
          slides = h.slides ∙ ap (λ x. slides_if x s.slides) (fall_moved ∙ any_same s.anchors m c b c moved_as);
          below = record { each = λ i x y. h.low i x (omega arith) (omega arith) ∙ below.each i x y };
        }
      where
        moved_as : (j : ℕ) → j < s.anchors → has_moved m c j ≡ has_moved b c j
        moved_as j l = elim (cases_eq j k) [
          | inl q ↦ ap (has_moved m c) q ∙ elim own [
            | inl z ↦ new_at m c k z ∙ sym (gone_at b c k (h.places k lk ∙ rests_at from to (row_place m k) (omega arith) ∙ z))
            | inr x ↦ ap (λ p. not (p == 0) && not (row_place c k == 0) && not (p == row_place c k)) (x.0 ∙ place_is)
          ] ∙ ap (has_moved b c) (sym q)
          | inr d ↦ ap (λ p. not (p == 0) && not (row_place c j == 0) && not (p == row_place c j)) (places j l d)
        ]

-- ---- a block that goes

module _ (b m : List ℕ) (s : WideSlot) (k : ℕ) (w : IsWideSlot b s) (lk : k < s.anchors) (told : m ≡ with_entry b k 0 0) where
  in_b : 8 * k + 8 ≤ length b
  in_b = let table = w.table in let up = w.up in let within = w.within in omega arith

  pub gone_len : length m ≡ length b
  gone_len = ap length told ∙ entry_len b k 0 0 in_b

  pub gone_own : row_place m k ≡ 0
  gone_own = ap (λ l. row_place l k) told ∙ entry_place b k 0 0 in_b (omega arith)

  pub gone_places : (j : ℕ) → j ≢ k → row_place m j ≡ row_place b j
  gone_places j d = ap (λ l. row_place l j) told ∙ entry_places b k 0 0 in_b j d

  pub gone_sizes : (j : ℕ) → j ≢ k → row_size m j ≡ row_size b j
  gone_sizes j d = ap (λ l. row_size l j) told ∙ entry_sizes b k 0 0 in_b j d

  gone_bytes : (i : ℕ) → 8 * s.anchors ≤ i → get_or m i 0 ≡ get_or b i 0
  gone_bytes i h = ap (λ l. get_or l i 0) told ∙ entry_bytes b k 0 0 in_b i (omega arith)

  other : (j : ℕ) → row_place m j ≢ 0 → j ≢ k
  other j u q = u (ap (row_place m) q ∙ gone_own)

  pub gone_slot : IsWideSlot m s
  gone_slot =
      let len = gone_len in
      let few = w.few in
      let within = w.within in
      record {
        few = omega arith;
        count = w.count;
        table = w.table;
        up = w.up;
        within = omega arith;
        whole_base = w.whole_base;
        whole_top = w.whole_top;
        whole = λ j l. elim (cases_eq j k) [
          | inl q ↦ (let z : row_place m j ≡ 0 = ap (row_place m) q ∙ gone_own in omega arith)
          | inr d ↦ (let p = gone_places j d in let o = w.whole j l in omega arith)
        ];
        low = λ j l u. (let p = gone_places j (other j u) in let o = w.low j l (λ z. u (p ∙ z)) in omega arith);
        high = λ j l u. (let p = gone_places j (other j u) in let z = gone_sizes j (other j u) in let o = w.high j l (λ e. u (p ∙ e)) in omega arith);
        apart = λ i j li lj d u v le. (let p = gone_places i (other i u) in let z = gone_sizes i (other i u) in let q = gone_places j (other j v) in
            let o = w.apart i j li lj d (λ e. u (p ∙ e)) (λ e. v (q ∙ e)) (omega arith) in omega arith);
      }

  pub gone_others : (j : ℕ) → j < s.anchors → j ≢ k → row_block m j ≡ row_block b j
  gone_others j l d =
      let p = gone_places j d in
      same_block b m j (λ z. p ∙ z) (λ u z. u (sym p ∙ z)) (gone_sizes j d)
      (λ u. let low = w.low j l u in let table = w.table in
      ap (λ i. part m i (row_size b j)) p ∙ part_same b m (row_place b j) (row_size b j) (record { each = λ i y z. gone_bytes i (omega arith) }))

  pub gone_below : SameIn b m (8 * s.anchors) s.base
  gone_below = record { each = λ i x y. gone_bytes i x }

pub free_leaves : (b m c : List ℕ) (s t : WideSlot) (k place size from : ℕ) → IsWideSlot b s → k < s.anchors → row_place b k ≢ 0 → place ≡ row_place b k
    → size ≡ row_size b k → from ≡ place + wide_weight size → m ≡ with_entry b k 0 0 → Shifts m c s t from place → Leaves b c s t k None
free_leaves b m c s t k place size from w lk used pe ze fe told h =
    let whole = w.whole k lk in
    fall_leaves b m c s t k place size from place w lk used pe ze fe (omega arith) (omega arith) (omega arith) (gone_slot b m s k w lk told)
    (λ j l d. gone_places b m s k w lk told j d) (λ j l d. gone_sizes b m s k w lk told j d) (inl (gone_own b m s k w lk told)) h
    (gone_len b m s k w lk told) None (no_block m k (gone_own b m s k w lk told)) (omega arith) (omega arith) (gone_others b m s k w lk told)
    (gone_below b m s k w lk told)

-- ---- a block that gets shorter

pub shrink_leaves : (b m c : List ℕ) (s t : WideSlot) (k place size new from to : ℕ) → IsWideSlot b s → k < s.anchors → row_place b k ≢ 0
    → place ≡ row_place b k → size ≡ row_size b k → from ≡ place + wide_weight size → to ≡ place + wide_weight new → to < from
    → Edits b m k place new place (place + new) → Shifts m c s t from to → (block : List ℕ) → part m place new ≡ block → Leaves b c s t k (Some block)
shrink_leaves b m c s t k place size new from to w lk used pe ze fe te less e h block is =
    let whole = w.whole k lk in
    let low = w.low k lk used in
    let table = w.table in
    let fits : wide_weight new ≤ wide_weight size = omega arith in
    let sk = e.size_is in
    let pk = e.place_is in
    let taken : taken_by (Some block) ≡ wide_weight new = ap wide_weight (ap length (sym is) ∙ length-part m place new) in
    fall_leaves b m c s t k place size from to w lk used pe ze fe less (omega arith) (omega arith) (kept_slot b m s k place size w lk used pe ze new e fits)
    (λ j l d. e.places j (omega arith) d) (λ j l d. e.sizes j (omega arith) d) (inr (pk, omega arith)) h e.len (Some block)
    (kept_own b m s k place size w lk used pe ze new e fits ∙ ap Some is) (omega arith) (omega arith)
    (kept_others b m s k place size w lk used pe ze new e fits) (kept_below b m s k place size w lk used pe ze new e fits)

-- ---- bytes below the blocks

module _ (b c : List ℕ) (s t : WideSlot) (by : ℕ) (w : IsWideSlot b s) (some : by ≢ 0) (whole : by % 8 ≡ 0) (fit : s.top + by ≤ length b)
    (h : Shifts b c s t s.base (s.base + by)) where
  all_above : IsClear b s.anchors s.base (s.base + by)
  all_above j l u = inr (w.low j l u)

  fits : s.base + by + (s.top - s.base) ≤ length b
  fits = let up = w.up in omega arith

  whole_up : (s.base + by) % 8 ≡ 0
  whole_up = let wb = w.whole_base in omega arith

  raised : IsWideSlot c t
  raised = shift_slot b c s t s.base (s.base + by) w all_above h (omega arith) (omega arith) w.up fits w.whole_base whole_up

  abbrev now : WideSlot
  now = record { base = s.base + by; top = t.top; anchors = t.anchors; slides = t.slides }

  pub budge_leaves : Budged b c s now by
  budge_leaves =
      let r = raised in
      let up = w.up in
      let top = h.top in
      let anchors = h.anchors in
      let table = w.table in
      let count = w.count.0 in
      record {
        still = record {
          few = r.few;
          count = r.count;
          table = omega arith;
          up = omega arith;
          within = r.within;
          whole_base = whole_up;
          whole_top = r.whole_top;
          whole = r.whole;
          low = λ j l u. (let lj : j < s.anchors = omega arith in elim (cases_lt (row_place b j) s.base) [
            | inl x ↦ elim (cases_eq (row_place b j) 0) [
              | inl z ↦ absurd (u (h.places j lj ∙ rests_at s.base (s.base + by) (row_place b j) x ∙ z))
              | inr d ↦ (let o = w.low j lj d in absurd (omega arith))
            ]
            | inr x ↦ (let p = h.places j lj ∙ moved_at s.base (s.base + by) (row_place b j) x in omega arith)
          ]);
          high = r.high;
          apart = r.apart;
        };
        len = h.len;
        blocks = shift_blocks b c s t s.base (s.base + by) w all_above h (omega arith) (omega arith) w.up fits w.whole_base whole_up;
        anchors = anchors;
        base = refl;
        top = omega arith;
        slides = h.slides ∙ ap (λ x. slides_if x s.slides)
            (shift_moved b c s t s.base (s.base + by) w all_above h (omega arith) (omega arith) w.up fits w.whole_base whole_up (λ q. absurd (omega arith)));
        below = record { each = λ i x y. h.low i x y (omega arith) };
      }

pub budge_nothing : (b : List ℕ) (s : WideSlot) → IsWideSlot b s → Budged b b s s 0
budge_nothing b s w = record {
  still = w;
  len = refl;
  blocks = λ j l. refl;
  anchors = refl;
  base = omega arith;
  top = omega arith;
  slides = counts_none s.anchors s.slides b b (λ j l. still_at b b j refl);
  below = record { each = λ i x y. refl };
}
