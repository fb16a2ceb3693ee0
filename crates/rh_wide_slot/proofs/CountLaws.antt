-- A slot with another count of anchors: fewer, or again those whose words are 0.
use Rattle.rh_wide_slot.proofs.Common.{◌≡◌, ◌≢◌, ℕ, ◌*◌, ◌%◌, ◌<◌, ◌≤◌, inl, inr, List, arith, cases_lt, IsWideSlot, row_place, WideSlot}
use Rattle.rh_defs.specs.declared.sizes.TheConstants.{ANCHORS}
use Rattle.rh_wide_slot.specs.declared.slot.TheConstants.{MOST_ANCHORS}

-- the slot with so many anchors
abbrev pub with_count : WideSlot → ℕ → WideSlot
with_count s n = record { base = s.base; top = s.top; anchors = n; slides = s.slides }

module _ (b : List ℕ) (s : WideSlot) (n : ℕ) (w : IsWideSlot b s) where
  -- down to 64 anchors
  pub fewer_anchors : ANCHORS ≤ n → n ≤ s.anchors → IsWideSlot b (with_count s n)
  fewer_anchors least most =
      let count = w.count in
      let table = w.table in
      let in_s : (k : ℕ) → k < n → k < s.anchors = λ k l. omega arith in
      record {
        few = w.few;
        count = (least, omega (arith, count.1));
        table = omega arith;
        up = w.up;
        within = w.within;
        whole_base = w.whole_base;
        whole_top = w.whole_top;
        whole = λ k l. w.whole k (in_s k l);
        low = λ k l. w.low k (in_s k l);
        high = λ k l. w.high k (in_s k l);
        apart = λ j k lj lk. w.apart j k (in_s j lj) (in_s k lk);
      }

  -- up to those whose words lie below the blocks, and are 0
  pub more_anchors : s.anchors ≤ n → n ≤ MOST_ANCHORS → 8 * n ≤ s.base → ((k : ℕ) → s.anchors ≤ k → k < n → row_place b k ≡ 0)
      → IsWideSlot b (with_count s n)
  more_anchors least most table none =
      let count = w.count in
      let in_s : (k : ℕ) → k < n → row_place b k ≢ 0 → k < s.anchors =
      λ k l d. elim (cases_lt k s.anchors) [ inl x ↦ x | inr x ↦ absurd (d (none k x l)) ]
      in
      let whole : (k : ℕ) → k < n → row_place b k % 8 ≡ 0 =
      λ k l. elim (cases_lt k s.anchors) [ inl x ↦ w.whole k x | inr x ↦ (let e = none k x l in omega arith) ]
      in
      record {
        few = w.few;
        count = (omega (arith, count.0), most);
        table = table;
        up = w.up;
        within = w.within;
        whole_base = w.whole_base;
        whole_top = w.whole_top;
        whole = whole;
        low = λ k l d. w.low k (in_s k l d) d;
        high = λ k l d. w.high k (in_s k l d) d;
        apart = λ j k lj lk d nj nk. w.apart j k (in_s j lj nj) (in_s k lk nk) d nj nk;
      }
