-- What an edit of one anchor's words and block leaves.
use Rattle.rh_wide_slot.proofs.Common.{◌≡◌, ◌≢◌, ℕ, ◌+◌, ◌-◌, ◌*◌, ◌%◌, ◌^◌, ◌<◌, ◌≤◌, ◌⊎◌, inl, inr, List, ◌++◌, length, get_or}
use Rattle.rh_wide_slot.proofs.Common.{take, drop, replicate, sym, ap, ◌∙◌, arith, Some, cases_eq, cases_lt, word, part, with_part}
use Rattle.rh_wide_slot.proofs.Common.{length-put, length-part, length-replicate, put_below, put_above, part_same, word_same, IsWideSlot}
use Rattle.rh_wide_slot.proofs.Common.{row_place, row_size, end_of, wide_weight, row_block, Edits}
use Rattle.rh_wide_slot.proofs.Common.{spliced, with_entry, SameIn, WideSlot}
use Rattle.std.proofs.Math.Seq.{take-append_seam, drop-append_seam}
use Rattle.rh_defs.specs.Pieces.{zeros}
use Rattle.rh_defs.proofs.BytesLaws.{part_more, part-put, part-put_below, part-put_above, part-put_zeros, put_zeros_below, put_zeros_above}
use Rattle.rh_wide_slot.proofs.EntryLaws.{entry_len, entry_place, entry_size, entry_places, entry_sizes, entry_bytes, a_block, same_block}

-- of two blocks one ends before the other begins
pub beside : (b : List ℕ) (s : WideSlot) (j k : ℕ) → IsWideSlot b s → j < s.anchors → k < s.anchors → j ≢ k → row_place b j ≢ 0 → row_place b k ≢ 0
    → (end_of b j ≤ row_place b k) ⊎ (end_of b k ≤ row_place b j)
beside b s j k w lj lk d nj nk = elim (cases_lt (row_place b j) (row_place b k)) [
  | inl x ↦ inl (w.apart j k lj lk d nj nk (omega arith))
  | inr x ↦ inr (w.apart k j lk lj (λ e. d (sym e)) nk nj x)
]

-- an anchor's words, written after bytes between two places
module _ (b m c : List ℕ) (k place size lo hi : ℕ) (table : 8 * k + 8 ≤ length b) (len : length m ≡ length b) (few : place < 2 ^ 32)
    (few_size : size < 2 ^ 32) (below : (i : ℕ) → i < lo → get_or m i 0 ≡ get_or b i 0) (above : (i : ℕ) → hi ≤ i → get_or m i 0 ≡ get_or b i 0)
    (told : c ≡ with_entry m k place size) where
  in_m : 8 * k + 8 ≤ length m
  in_m = omega arith

  same_word : (p : ℕ) → p + 4 ≤ lo → word m p ≡ word b p
  same_word p h = word_same b m p (record { each = λ i x y. below i (omega arith) })

  pub entry_edits : Edits b c k place size lo hi
  entry_edits = record {
    len = ap length told ∙ entry_len m k place size in_m ∙ len;
    place_is = ap (λ l. row_place l k) told ∙ entry_place m k place size in_m few;
    size_is = ap (λ l. row_size l k) told ∙ entry_size m k place size in_m few_size;
    places = λ j h n. ap (λ l. row_place l j) told ∙ entry_places m k place size in_m j n ∙ same_word (8 * j) (omega arith);
    sizes = λ j h n. ap (λ l. row_size l j) told ∙ entry_sizes m k place size in_m j n ∙ same_word (8 * j + 4) (omega arith);
    below = λ i h g. ap (λ l. get_or l i 0) told ∙ entry_bytes m k place size in_m i h ∙ below i g;
    above = λ i h g. ap (λ l. get_or l i 0) told ∙ entry_bytes m k place size in_m i h ∙ above i g;
  }

-- ---- the first and the last bytes of a part

pub take_part : (b : List ℕ) (p n k : ℕ) → k ≤ n → take k (part b p n) ≡ part b p k
take_part b p n k h =
    let all : n ≡ k + (n - k) = omega arith in
    ap (λ i. take k (part b p i)) all ∙ ap (take k) (part_more b p k (n - k))
    ∙ ap (λ i. take i (part b p k ++ part b (p + k) (n - k))) (sym (length-part b p k))
    ∙ take-append_seam (part b p k) (part b (p + k) (n - k))

pub drop_part : (b : List ℕ) (p n k : ℕ) → k ≤ n → drop k (part b p n) ≡ part b (p + k) (n - k)
drop_part b p n k h =
    let all : n ≡ k + (n - k) = omega arith in
    ap (λ i. drop k (part b p i)) all ∙ ap (drop k) (part_more b p k (n - k))
    ∙ ap (λ i. drop i (part b p k ++ part b (p + k) (n - k))) (sym (length-part b p k))
    ∙ drop-append_seam (part b p k) (part b (p + k) (n - k))

-- ---- the bytes of a block that is opened

module _ (b m c d : List ℕ) (k place size offset out put at : ℕ) (within : place + (size - out + put) ≤ length b) (old : place + size ≤ length b)
    (few : length b < 2 ^ 32) (table : 8 * k + 8 ≤ place) (inside : offset ≤ size) (enough : out ≤ offset) (at_is : at ≡ place + offset - out)
    (slid : m ≡ with_part b (at + put) (part b (place + offset) (size - offset))) (zeroed : c ≡ with_part m at (replicate put 0))
    (told : d ≡ with_entry c k place (size - out + put)) where
  abbrev new : ℕ
  new = size - out + put

  abbrev tail : List ℕ
  tail = part b (place + offset) (size - offset)

  tail_len : length tail ≡ size - offset
  tail_len = length-part b (place + offset) (size - offset)

  len_m : length m ≡ length b
  len_m = ap length slid ∙ length-put b (at + put) tail

  len_c : length c ≡ length b
  len_c = ap length zeroed ∙ length-put m at (replicate put 0) ∙ len_m

  room : 8 * k + 8 ≤ length c
  room = let l = len_c in omega arith

  -- up to the block nothing else is written, nor behind its new end
  below_at : (i : ℕ) → i < place → get_or c i 0 ≡ get_or b i 0
  below_at i h =
      ap (λ l. get_or l i 0) zeroed ∙ put_zeros_below m at put i (omega arith) ∙ ap (λ l. get_or l i 0) slid
      ∙ put_below b (at + put) tail i (omega arith)

  above_at : (i : ℕ) → place + new ≤ i → get_or c i 0 ≡ get_or b i 0
  above_at i h =
      let t = tail_len in
      ap (λ l. get_or l i 0) zeroed ∙ put_zeros_above m at put i (omega arith) ∙ ap (λ l. get_or l i 0) slid
      ∙ put_above b (at + put) tail i (omega arith)

  pub open_edits : Edits b d k place new place (place + new)
  open_edits = entry_edits b c d k place new place (place + new) (omega arith) len_c (omega arith) (omega arith) below_at above_at told

  pub open_block : part d place new ≡ spliced offset out put (part b place size)
  open_block =
      let t = tail_len in
      let lm = len_m in
      let all : new ≡ (offset - out) + (put + (size - offset)) = omega arith in
      let at_is2 : place + (offset - out) ≡ at = omega arith in
      let head : part c place (offset - out) ≡ take (offset - out) (part b place size) =
      ap (λ l. part l place (offset - out)) zeroed ∙ part-put_below m at (replicate put 0) place (offset - out) (omega arith)
      ∙ ap (λ l. part l place (offset - out)) slid ∙ part-put_below b (at + put) tail place (offset - out) (omega arith)
      ∙ sym (take_part b place size (offset - out) (omega arith)) in
      let gap : part c at put ≡ zeros put = ap (λ l. part l at put) zeroed ∙ part-put_zeros m at put (omega arith) in
      let rest : part c (at + put) (size - offset) ≡ drop offset (part b place size) =
      ap (λ l. part l (at + put) (size - offset)) zeroed
      ∙ part-put_above m at (replicate put 0) (at + put) (size - offset) (omega (arith, length-replicate {A = ℕ} put 0))
      ∙ ap (λ l. part l (at + put) (size - offset)) slid ∙ part-put b (at + put) tail (size - offset) (sym t) (omega arith)
      ∙ sym (drop_part b place size offset inside) in
      part_same c d place new (record { each = λ i x y. ap (λ l. get_or l i 0) told ∙ entry_bytes c k place new room i (omega arith) })
      ∙ ap (part c place) all ∙ part_more c place (offset - out) (put + (size - offset))
      ∙ ap (λ i. part c place (offset - out) ++ part c i (put + (size - offset))) at_is2
      ∙ ap (λ l. part c place (offset - out) ++ l) (part_more c at put (size - offset))
      ∙ ap (λ l. l ++ (part c at put ++ part c (at + put) (size - offset))) head
      ∙ ap (λ l. take (offset - out) (part b place size) ++ (l ++ part c (at + put) (size - offset))) gap
      ∙ ap (λ l. take (offset - out) (part b place size) ++ (zeros put ++ l)) rest

-- ---- the slot after an edit between the block's place and another

module _ (b c : List ℕ) (s t : WideSlot) (k place size hi room : ℕ) (w : IsWideSlot b s) (lk : k < s.anchors) (e : Edits b c k place size place hi)
    (anchors : t.anchors ≡ s.anchors) (base : t.base ≡ s.base) (up : s.top ≤ t.top) (within : t.top ≤ length b) (whole_top : t.top % 8 ≡ 0)
    (low : s.base ≤ place) (whole : place % 8 ≡ 0) (fits : wide_weight size ≤ room) (hi_in : hi ≤ place + room) (high : place + room ≤ t.top)
    (clear : (j : ℕ) → j < s.anchors → j ≢ k → row_place b j ≢ 0 → (end_of b j ≤ place) ⊎ (place + room ≤ row_place b j)) where
  in_table : (j : ℕ) → j < s.anchors → 8 * j + 8 ≤ place
  in_table j l = let table = w.table in omega arith

  places : (j : ℕ) → j < s.anchors → j ≢ k → row_place c j ≡ row_place b j
  places j l d = e.places j (in_table j l) d

  sizes : (j : ℕ) → j < s.anchors → j ≢ k → row_size c j ≡ row_size b j
  sizes j l d = e.sizes j (in_table j l) d

  apart_now : (i j : ℕ) → i < s.anchors → j < s.anchors → i ≢ j → row_place c i ≢ 0 → row_place c j ≢ 0 → row_place c i ≤ row_place c j
      → end_of c i ≤ row_place c j
  apart_now i j li lj d ni nj le =
      let pk = e.place_is in
      let sk = e.size_is in
      elim (cases_eq i k) [
        | inl ei ↦ (
            let dj : j ≢ k = λ q. d (ei ∙ sym q) in
            let qj = places j lj dj in
            let pi : row_place c i ≡ place = ap (row_place c) ei ∙ pk in
            let si : row_size c i ≡ size = ap (row_size c) ei ∙ sk in
            elim (clear j lj dj (λ z. nj (qj ∙ z))) [ inl x ↦ absurd (omega arith) | inr x ↦ omega arith ]
            )
        | inr di ↦ (
            let qi = places i li di in
            let zi = sizes i li di in
            elim (cases_eq j k) [
              | inl ej ↦ (
                  let pj : row_place c j ≡ place = ap (row_place c) ej ∙ pk in
                  elim (clear i li di (λ z. ni (qi ∙ z))) [ inl x ↦ omega arith | inr x ↦ absurd (omega arith) ]
                  )
              | inr dj ↦ (let qj = places j lj dj in let o = w.apart i j li lj d (λ z. ni (qi ∙ z)) (λ z. nj (qj ∙ z)) (omega arith) in omega arith)
            ]
            )
      ]

  low_now : (j : ℕ) → j < s.anchors → row_place c j ≢ 0 → s.base ≤ row_place c j
  low_now j l n = elim (cases_eq j k) [
    | inl q ↦ (let pk : row_place c j ≡ place = ap (row_place c) q ∙ e.place_is in omega arith)
    | inr d ↦ (let p = places j l d in let o = w.low j l (λ z. n (p ∙ z)) in omega arith)
  ]

  high_now : (j : ℕ) → j < s.anchors → row_place c j ≢ 0 → end_of c j ≤ t.top
  high_now j l n = elim (cases_eq j k) [
    | inl q ↦ (
        let pk : row_place c j ≡ place = ap (row_place c) q ∙ e.place_is in
        let sk : row_size c j ≡ size = ap (row_size c) q ∙ e.size_is in
        omega arith
        )
    | inr d ↦ (let p = places j l d in let z = sizes j l d in let o = w.high j l (λ z. n (p ∙ z)) in omega arith)
  ]

  whole_now : (j : ℕ) → j < s.anchors → row_place c j % 8 ≡ 0
  whole_now j l = elim (cases_eq j k) [
    | inl q ↦ (let pk : row_place c j ≡ place = ap (row_place c) q ∙ e.place_is in omega arith)
    | inr d ↦ (let p = places j l d in let o = w.whole j l in omega arith)
  ]

  pub edit_slot : IsWideSlot c t
  edit_slot =
      let few = w.few in
      let len = e.len in
      let count = w.count in
      let table = w.table in
      let up0 = w.up in
      let wb = w.whole_base in
      let in_s : (j : ℕ) → j < t.anchors → j < s.anchors = λ j l. omega arith in
      record {
        few = omega arith;
        count = (omega (arith, count.0), omega (arith, count.1));
        table = omega arith;
        up = omega arith;
        within = omega arith;
        whole_base = omega arith;
        whole_top = whole_top;
        whole = λ j l. whole_now j (in_s j l);
        low = λ j l n. (let o = low_now j (in_s j l) n in omega arith);
        high = λ j l n. high_now j (in_s j l) n;
        apart = λ i j li lj d ni nj le. apart_now i j (in_s i li) (in_s j lj) d ni nj le;
      }

  pub edit_others : (j : ℕ) → j < s.anchors → j ≢ k → row_block c j ≡ row_block b j
  edit_others j l d =
      let p = places j l d in
      same_block b c j (λ z. p ∙ z) (λ n z. n (sym p ∙ z)) (sizes j l d)
      (λ n. let o = w.low j l n in let table = w.table in
      ap (λ i. part c i (row_size b j)) p ∙ elim (clear j l d n) [
        | inl x ↦ part_same b c (row_place b j) (row_size b j) (record { each = λ i y z. e.below i (omega arith) (omega arith) })
        | inr x ↦ part_same b c (row_place b j) (row_size b j) (record { each = λ i y z. e.above i (omega arith) (omega arith) })
      ])

  pub edit_own : row_block c k ≡ Some (part c place size)
  edit_own =
      let pk = e.place_is in
      let count = w.count.0 in
      let table = w.table in
      a_block c k (λ z. absurd (omega arith)) ∙ ap (λ i. Some (part c i (row_size c k))) pk ∙ ap (λ i. Some (part c place i)) e.size_is

  pub edit_below : SameIn b c (8 * s.anchors) s.base
  edit_below = record { each = λ i x y. e.below i (omega arith) (omega arith) }
