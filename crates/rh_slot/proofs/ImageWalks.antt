-- How far a check of a slot's bytes has come.
use Rattle.rh_slot.proofs.Common.{◌≡◌, ℕ, zero, suc, ◌+◌, ◌-◌, ◌*◌, ◌%◌, ◌<◌, ◌≤◌, true, false, leb, List, [], ◌∷◌, ◌++◌, length, refl, sym, ap, ◌∙◌}
use Rattle.rh_slot.proofs.Common.{append_assoc, length-append, arith, Some, None, nat_le, nat_tests, append-nil, PAGE, word, total, fault_of, Flex, weight}
use Rattle.rh_slot.proofs.Common.{flex_weight, slot_length, slot_pages, anchor_count, is_block, flex_in, heap_place, length-part, eqb_apart, are_hung}
use Rattle.rh_slot.proofs.Common.{BadSize, BadAnchor, SparePage}
use Rattle.rh_defs.specs.HeapImage.{IsImage, heap_of}
use Rattle.rh_defs.proofs.HeapFaults.{image_clean}
use Rattle.rh_heap.specs.HeapChecks.{summary_of}
use Rattle.rh_heap.specs.declared.image.Summary.{Summary}
use Rattle.rh_slot.specs.SlotChecks.{IsSlotImage, flex_size, has_slot_length, heap_bytes, slot_fault_of, slot_summary}
use Rattle.rh_slot.specs.Inner.RowChecks.{IsRow, words_in_use}
use Rattle.rh_slot.specs.declared.image.BlockSums.{BlockSums}
use Rattle.rh_slot.specs.declared.image.SlotSummary.{SlotSummary}
use Rattle.rh_slot.proofs.ImageLaws.{block_at, after, flex_in-yes, flex_in-no, weight-block_at, Length, length_from, read, blocks_from, long, heap_is}
use Rattle.rh_slot.proofs.ImageLaws.{heap_from, is_slot, fault-size, fault-anchor, fault-page, not_true, slot_clean}
use Rattle.rh_slot.proofs.AnchorCounts.{as_many, hung_by}

sum_both : (size : Flex → ℕ) (xs ys : List Flex) → total size (xs ++ ys) ≡ total size xs + total size ys
sum_both size [] ys = omega arith
sum_both size (x ∷ xs) ys = let r = sum_both size xs ys in omega arith

-- a walk over the blocks that stand from a place on has passed some of them
pub record Passing (b : List ℕ) (from p : ℕ) : Type 0 where
  pub passed : List Flex
  pub fuel : ℕ
  pub is : flex_in (length b) b from ≡ passed ++ flex_in fuel b p
  pub place : p ≡ from + total weight passed

pub passing_start : (b : List ℕ) (from : ℕ) → Passing b from from
passing_start b from = record { passed = []; fuel = length b; is = refl; place = omega arith }

-- there is fuel for one more block
pub record More (fuel : ℕ) : Type 0 where
  pub left : ℕ
  pub is : fuel ≡ suc left

more : (n : ℕ) → 0 < n → More n
more zero h = absurd (omega arith)
more (suc k) h = record { left = k; is = refl }

-- what stands at the walk's place
pub is_now : (b : List ℕ) (from p : ℕ) (w : Passing b from p) (m : More w.fuel) → is_block b p ≡ true
    → flex_in (length b) b from ≡ w.passed ++ block_at b p ∷ flex_in m.left b (after b p)
is_now b from p w m t = w.is ∙ ap (λ l. w.passed ++ l) (ap (λ i. flex_in i b p) m.is ∙ flex_in-yes m.left b p t)

pub passing_on : (b : List ℕ) (from p q : ℕ) (w : Passing b from p) (m : More w.fuel) → is_block b p ≡ true → q ≡ after b p → Passing b from q
passing_on b from p q w m t e = record {
  passed = w.passed ++ block_at b p ∷ [];
  fuel = m.left;
  is = is_now b from p w m t ∙ sym (append_assoc w.passed (block_at b p ∷ []) (flex_in m.left b (after b p)))
      ∙ ap (λ i. (w.passed ++ block_at b p ∷ []) ++ flex_in m.left b i) (sym e);
  place = omega (arith, w.place, sum_both weight w.passed (block_at b p ∷ []), weight-block_at b p);
}

pub passing_end : (b : List ℕ) (from p : ℕ) (w : Passing b from p) → flex_in w.fuel b p ≡ [] → flex_in (length b) b from ≡ w.passed
passing_end b from p w e = w.is ∙ ap (λ l. w.passed ++ l) e ∙ append-nil w.passed

-- ---- the walk that adds up

pub record RowWalk (b : List ℕ) (from : ℕ) (sums : BlockSums) : Type 0 where
  pub walk : Passing b from sums.top
  pub enough : length b < sums.top + walk.fuel
  pub within : sums.top ≤ length b
  pub whole : sums.top % 4 ≡ 0
  pub blocks : sums.blocks ≡ length walk.passed
  pub bytes : sums.bytes ≡ total flex_size walk.passed
  pub few : sums.blocks ≤ sums.top
  pub small : sums.bytes ≤ sums.top

pub row_start : (b : List ℕ) (from : ℕ) → heap_place ≤ from → from ≤ length b → from % 4 ≡ 0 → RowWalk b from (record { top = from; blocks = 0; bytes = 0 })
unfolding passing_start
row_start b from l h e =
    record { walk = passing_start b from; enough = omega arith; within = h; whole = e; blocks = refl; bytes = refl; few = omega arith; small = omega arith }

pub row_turn : (b : List ℕ) (from : ℕ) (sums : BlockSums) (size step : ℕ) → RowWalk b from sums → is_block b sums.top ≡ true → size ≡ word b (sums.top + 4)
    → step ≡ flex_weight size → sums.top + step ≤ length b
    → RowWalk b from (record { top = sums.top + step; blocks = sums.blocks + 1; bytes = sums.bytes + size })
unfolding passing_on
row_turn b from sums size step w t es e fits =
    let enough = w.enough in
    let within = w.within in
    let whole = w.whole in
    let few = w.few in
    let small = w.small in
    let m = more w.walk.fuel (omega arith) in
    let mi = m.is in
    let step_is : sums.top + step ≡ after b sums.top = ap (λ n. sums.top + n) (e ∙ ap flex_weight es) in
    let here = block_at b sums.top in
    let len : flex_size here ≡ size = length-part b (sums.top + 8) (word b (sums.top + 4)) ∙ sym es in
    record {
      walk = passing_on b from sums.top (sums.top + step) w.walk m t step_is;
      enough = omega arith;
      within = fits;
      whole = omega arith;
      blocks = omega (arith, w.blocks, length-append w.walk.passed (here ∷ []));
      bytes = omega (arith, w.bytes, sum_both flex_size w.walk.passed (here ∷ []), len);
      few = omega arith;
      small = omega arith;
    }

pub row_over : (b : List ℕ) (from : ℕ) (sums : BlockSums) → RowWalk b from sums → is_block b sums.top ≡ true
    → length b < sums.top + flex_weight (word b (sums.top + 4)) → length b < from + total weight (flex_in (length b) b from)
row_over b from sums w t h =
    let enough = w.enough in
    let within = w.within in
    let m = more w.walk.fuel (omega arith) in
    let here = block_at b sums.top in
    let rest = flex_in m.left b (after b sums.top) in
    omega (arith, w.walk.place, ap (total weight) (is_now b from sums.top w.walk m t), sum_both weight w.walk.passed (here ∷ rest), weight-block_at b sums.top)

pub row_end : (b : List ℕ) (from : ℕ) (sums : BlockSums) → RowWalk b from sums → is_block b sums.top ≡ false → IsRow b from sums
row_end b from sums w t =
    let all = sym (passing_end b from sums.top w.walk (flex_in-no w.walk.fuel b sums.top t)) in
    record {
      top = w.walk.place ∙ ap (λ l. from + total weight l) all;
      within = w.within;
      blocks = w.blocks ∙ ap length all;
      bytes = w.bytes ∙ ap (total flex_size) all;
    }

-- ---- what all of it finds

pub record Ready (b : List ℕ) (from : ℕ) : Type 0 where
  pub length_is : Length b
  pub right : has_slot_length b ≡ true
  pub image : IsImage (heap_bytes b) (heap_of (heap_bytes b) 0)
  pub clean : fault_of (heap_bytes b) ≡ None
  pub at : from ≡ heap_place + word b (heap_place + 12)
  pub within : from ≤ length b
  pub whole : from % 4 ≡ 0

pub ready : (b : List ℕ) (from w : ℕ) → has_slot_length b ≡ true → IsImage (heap_bytes b) (heap_of (heap_bytes b) 0) → w ≡ word b (heap_place + 12)
    → from ≡ heap_place + w → Ready b from
ready b from w e i ew ef =
    let s = heap_from b (heap_of (heap_bytes b) 0) i in
    let last = s.last in
    let inside = s.within in
    let mult = s.heap.multiple in
    record {
      length_is = length_from b e;
      right = e;
      image = i;
      clean = image_clean (heap_bytes b) (heap_of (heap_bytes b) 0) i;
      at = omega arith;
      within = omega arith;
      whole = omega arith;
    }

leb_yes : (x y : ℕ) → x ≤ y → leb x y ≡ true
leb_yes x y h = grind (arith, nat_tests)

leb_no : (x y : ℕ) → y < x → leb x y ≡ false
leb_no x y h = grind (arith, nat_tests)

module _ (b : List ℕ) (from : ℕ) (r : Ready b from) where
  row_is : (read b).blocks ≡ flex_in (length b) b from
  row_is = blocks_from b ∙ ap (flex_in (length b) b) (sym r.at)

  top_is : slot_length (read b) ≡ from + total weight (flex_in (length b) b from)
  top_is = long b ∙ ap (λ p. p + total weight (flex_in (length b) b p)) (sym r.at)

  pub bad_size : length b < from + total weight (flex_in (length b) b from) → slot_fault_of b ≡ Some BadSize
  bad_size h = fault-size b r.right r.clean (leb_no (slot_length (read b)) (length b) (omega (arith, top_is)))

  module _ (row : BlockSums) (i : IsRow b from row) where
    length_here : slot_length (read b) ≡ row.top
    length_here = top_is ∙ sym i.top

    inside : nat_le (slot_length (read b)) (length b) ≡ true
    inside = leb_yes (slot_length (read b)) (length b) (omega (arith, length_here, i.within))

    -- each anchor word leads to a block
    hung : words_in_use b anchor_count ≡ row.blocks → are_hung b (read b).blocks anchor_count ≡ true
    hung e = ap (λ l. are_hung b l anchor_count) row_is ∙ hung_by b (length b) from (e ∙ i.blocks)

    pub bad_anchor : (words_in_use b anchor_count ≡ row.blocks → ⊥) → slot_fault_of b ≡ Some BadAnchor
    bad_anchor d = fault-anchor b r.right r.clean inside (not_true (are_hung b (read b).blocks anchor_count)
        (λ e. d (as_many b (length b) from (ap (λ l. are_hung b l anchor_count) (sym row_is) ∙ e) ∙ sym i.blocks)))

    pub spare : words_in_use b anchor_count ≡ row.blocks → PAGE ≤ length b - row.top → slot_fault_of b ≡ Some SparePage
    spare e h = fault-page b r.right r.clean inside (hung e)
        (eqb_apart (length b) (PAGE * slot_pages (read b)) (λ x. let w = i.within in absurd (omega (arith, length_here))))

    pub all_right : words_in_use b anchor_count ≡ row.blocks → length b - row.top < PAGE → IsSlotImage b (read b)
    all_right e h =
        let w = i.within in
        let l = r.length_is.whole in
        is_slot b (heap_of (heap_bytes b) 0) r.image r.length_is (omega (arith, length_here)) (hung e) (omega (arith, length_here))

    pub no_fault : words_in_use b anchor_count ≡ row.blocks → length b - row.top < PAGE → slot_fault_of b ≡ None
    no_fault e h = slot_clean b (read b) (all_right e h) refl

    pub sums_are : (heap : Summary) → heap ≡ summary_of (heap_of (heap_bytes b) 0)
        → (let s : SlotSummary = record { blocks = row.blocks; bytes = row.bytes; heap = heap; unused = length b - row.top } in s) ≡ slot_summary (length b)
        (read b)
    sums_are heap e =
        let he : heap ≡ summary_of (read b).heap = e ∙ ap summary_of (sym (heap_is b (heap_of (heap_bytes b) 0) r.image)) in
        ap (λ (x : ℕ). let s : SlotSummary = record { blocks = x; bytes = row.bytes; heap = heap; unused = length b - row.top } in s)
        (i.blocks ∙ ap length (sym row_is))
        ∙ ap (λ (x : ℕ). let s : SlotSummary = record { blocks = length (read b).blocks; bytes = x; heap = heap; unused = length b - row.top } in s)
        (i.bytes ∙ ap (total flex_size) (sym row_is))
        ∙ ap (λ (x : Summary). let s : SlotSummary =
        record { blocks = length (read b).blocks; bytes = total flex_size (read b).blocks; heap = x; unused = length b - row.top } in s) he
        ∙ ap (λ (x : ℕ). let s : SlotSummary =
        record { blocks = length (read b).blocks; bytes = total flex_size (read b).blocks; heap = summary_of (read b).heap; unused = length b - x } in
        s) (sym length_here)
