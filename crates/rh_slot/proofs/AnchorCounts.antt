-- The anchor words that aren't 0 are as many as the blocks just where each of them leads to a block.
use Rattle.rh_slot.proofs.Common.{◌≡◌, ℕ, zero, suc, ◌+◌, ◌*◌, ◌<◌, ◌≤◌, inl, inr, Bool, true, false, eqb, List, [], ◌∷◌, length, refl, sym, ap, ◌∙◌, arith}
use Rattle.rh_slot.proofs.Common.{◌||◌, if◌then◌else◌, cases_eq, word, Flex, weight, slot_start, IsFree, HaveAnchors, anchor_count, Anchored, flex_in, eqb_same}
use Rattle.rh_slot.proofs.Common.{eqb_apart, are_hung}
use Rattle.rh_defs.proofs.HeapFaults.{eq_from}
use Rattle.rh_slot.specs.SlotChecks.{has_anchor, is_hung}
use Rattle.rh_slot.specs.Inner.RowChecks.{words_in_use}
use Rattle.rh_slot.proofs.ImageLaws.{and_left, and_right, and_both, no_anchor, rows}

one_if : Bool → ℕ
one_if true = 1
one_if false = 0

-- how many of the first n anchors have a block
held : List Flex → ℕ → ℕ
held fs zero = 0
held fs (suc n) = held fs n + one_if (has_anchor fs n)

held_none : (n : ℕ) → held [] n ≡ 0
unfolding held one_if
held_none zero = refl
held_none (suc n) = let r = held_none n in omega arith

-- the first block's anchor is counted once
held_below : (f : Flex) (fs : List Flex) (n : ℕ) → n ≤ f.anchor → held (f ∷ fs) n ≡ held fs n
unfolding held
held_below f fs zero h = refl
held_below f fs (suc n) h =
    let r = held_below f fs n (omega arith) in
    let s : one_if (eqb f.anchor n || has_anchor fs n) ≡ one_if (has_anchor fs n) =
    ap (λ t. one_if (t || has_anchor fs n)) (eqb_apart f.anchor n (λ e. absurd (omega arith))) in
    omega arith

held_above : (f : Flex) (fs : List Flex) (n : ℕ) → IsFree f.anchor fs → f.anchor < n → held (f ∷ fs) n ≡ suc (held fs n)
unfolding held one_if
held_above f fs zero u h = absurd (omega arith)
held_above f fs (suc n) u h = elim (cases_eq f.anchor n) [
  | inl e ↦ (
      let r = held_below f fs n (omega arith) in
      let s : one_if (eqb f.anchor n || has_anchor fs n) ≡ 1 = ap (λ t. one_if (t || has_anchor fs n)) (eqb_same f.anchor n e) in
      let t : one_if (has_anchor fs n) ≡ 0 = ap (λ k. one_if (has_anchor fs k)) (sym e) ∙ ap one_if (no_anchor f.anchor fs u) in
      omega arith
      )
  | inr d ↦ (
      let r = held_above f fs n u (omega arith) in
      let s : one_if (eqb f.anchor n || has_anchor fs n) ≡ one_if (has_anchor fs n) = ap (λ t. one_if (t || has_anchor fs n)) (eqb_apart f.anchor n d) in
      omega arith
      )
]

-- all blocks have anchors of their own
held_all : (fs : List Flex) (n : ℕ) → HaveAnchors fs → anchor_count ≤ n → held fs n ≡ length fs
held_all [] n a h = held_none n
held_all (f ∷ fs) n a h = let l = a.0 in held_above f fs n a.1 (omega arith) ∙ ap suc (held_all fs n a.2 h)

-- a block's anchor word isn't 0
led : (b : List ℕ) (q : ℕ) (fs : List Flex) (k : ℕ) → Anchored b q fs → has_anchor fs k ≡ true → word b (4 * k) ≡ 0 → ⊥
led b q [] k h e z = absurd cc
led b q (f ∷ fs) k h e z = go (eqb f.anchor k) refl e (λ y. led b (q + weight f) fs k h.1 y z)
  where
    go : (t : Bool) → eqb f.anchor k ≡ t → (t || has_anchor fs k) ≡ true → (has_anchor fs k ≡ true → ⊥) → ⊥
    go true s y rest = let v : word b (4 * k) ≡ slot_start + q + 8 = ap (λ i. word b (4 * i)) (sym (eq_from f.anchor k s)) ∙ h.0 in absurd (omega arith)
    go false s y rest = rest y

-- what the first n anchor words tell
record Counted (b : List ℕ) (fs : List Flex) (n : ℕ) : Type 0 where
  most : held fs n ≤ words_in_use b n
  yes : are_hung b fs n ≡ true → words_in_use b n ≡ held fs n
  back : words_in_use b n ≡ held fs n → are_hung b fs n ≡ true

module _ (b : List ℕ) (fs : List Flex) (lead : (k : ℕ) → has_anchor fs k ≡ true → word b (4 * k) ≡ 0 → ⊥) where
  hung_on : (n d : ℕ) → words_in_use b (suc n) ≡ words_in_use b n + d → held fs (suc n) ≡ held fs n + d → is_hung b fs n ≡ true → Counted b fs n
      → Counted b fs (suc n)
  unfolding are_hung
  hung_on n d w h i c =
      let m = c.most in
      record {
        most = omega arith;
        yes = λ e. let r = c.yes (and_left (are_hung b fs n) (is_hung b fs n) e) in omega arith;
        back = λ e. and_both (are_hung b fs n) (is_hung b fs n) (c.back (omega arith)) i;
      }

  loose_on : (n : ℕ) → words_in_use b (suc n) ≡ words_in_use b n + 1 → held fs (suc n) ≡ held fs n + 0 → is_hung b fs n ≡ false → Counted b fs n
      → Counted b fs (suc n)
  unfolding are_hung
  loose_on n w h i c =
      let m = c.most in
      record {
        most = omega arith;
        yes = λ e. let y : true ≡ false = sym (and_right (are_hung b fs n) (is_hung b fs n) e) ∙ i in absurd cc;
        back = λ e. absurd (omega arith);
      }

  count : (n : ℕ) → Counted b fs n
  unfolding are_hung words_in_use held one_if
  count zero = record { most = omega arith; yes = λ e. refl; back = λ e. refl }
  count (suc n) = go (eqb (word b (4 * n)) 0) (has_anchor fs n) refl refl (count n)
    where
      words : (t : Bool) → eqb (word b (4 * n)) 0 ≡ t → words_in_use b (suc n) ≡ words_in_use b n + (if t then 0 else 1)
      words t e = ap (λ s. words_in_use b n + (if s then 0 else 1)) e

      holds : (t : Bool) → has_anchor fs n ≡ t → held fs (suc n) ≡ held fs n + one_if t
      holds t e = ap (λ s. held fs n + one_if s) e

      either : (t h : Bool) → eqb (word b (4 * n)) 0 ≡ t → has_anchor fs n ≡ h → is_hung b fs n ≡ (t || h)
      either t h e f = ap (λ s. s || has_anchor fs n) e ∙ ap (λ s. t || s) f

      go : (t h : Bool) → eqb (word b (4 * n)) 0 ≡ t → has_anchor fs n ≡ h → Counted b fs n → Counted b fs (suc n)
      go true true e f c = absurd (lead n f (eq_from (word b (4 * n)) 0 e))
      go true false e f c = hung_on n 0 (words true e) (holds false f) (either true false e f) c
      go false true e f c = hung_on n 1 (words false e) (holds true f) (either false true e f) c
      go false false e f c = loose_on n (words false e) (holds false f) (either false false e f) c

module _ (b : List ℕ) (k p : ℕ) where
  counts : Counted b (flex_in k b p) anchor_count
  counts = count b (flex_in k b p) (λ j. led b p (flex_in k b p) j (rows k b p).anchored) anchor_count

  all_held : held (flex_in k b p) anchor_count ≡ length (flex_in k b p)
  all_held = held_all (flex_in k b p) anchor_count (rows k b p).anchors (omega arith)

  pub as_many : are_hung b (flex_in k b p) anchor_count ≡ true → words_in_use b anchor_count ≡ length (flex_in k b p)
  as_many e = counts.yes e ∙ all_held

  pub hung_by : words_in_use b anchor_count ≡ length (flex_in k b p) → are_hung b (flex_in k b p) anchor_count ≡ true
  hung_by e = counts.back (e ∙ sym all_held)

-- ---- the walk over the anchor words

pub record WordsTo (b : List ℕ) (n used : ℕ) : Type 0 where
  pub used_is : used ≡ words_in_use b n
  pub few : used ≤ n
  pub most : n ≤ anchor_count

pub words_start : (b : List ℕ) → WordsTo b 0 0
unfolding words_in_use
words_start b = record { used_is = refl; few = omega arith; most = omega arith }

pub words_on : (b : List ℕ) (n used : ℕ) → WordsTo b n used → n < anchor_count → (word b (4 * n) ≡ 0 → ⊥) → WordsTo b (n + 1) (used + 1)
unfolding words_in_use
words_on b n used w l d =
    let u = w.used_is in
    let f = w.few in
    let v : words_in_use b (suc n) ≡ words_in_use b n + 1 = ap (λ t. words_in_use b n + (if t then 0 else 1)) (eqb_apart (word b (4 * n)) 0 d) in
    let m : n + 1 ≡ suc n = omega arith in
    let e : words_in_use b (n + 1) ≡ words_in_use b (suc n) = ap (words_in_use b) m in
    record { used_is = omega arith; few = omega arith; most = omega arith }

pub words_past : (b : List ℕ) (n used : ℕ) → WordsTo b n used → n < anchor_count → word b (4 * n) ≡ 0 → WordsTo b (n + 1) used
unfolding words_in_use
words_past b n used w l z =
    let u = w.used_is in
    let f = w.few in
    let v : words_in_use b (suc n) ≡ words_in_use b n + 0 = ap (λ t. words_in_use b n + (if t then 0 else 1)) (eqb_same (word b (4 * n)) 0 z) in
    let m : n + 1 ≡ suc n = omega arith in
    let e : words_in_use b (n + 1) ≡ words_in_use b (suc n) = ap (words_in_use b) m in
    record { used_is = omega arith; few = omega arith; most = omega arith }

pub words_end : (b : List ℕ) (n used : ℕ) → WordsTo b n used → anchor_count ≤ n → used ≡ words_in_use b anchor_count
words_end b n used w h = let m = w.most in let e : n ≡ anchor_count = omega arith in w.used_is ∙ ap (words_in_use b) e
