-- When bytes are a slot's, and what their first fault is.
use Rattle.rh_slot.proofs.Common.{◌≡◌, ℕ, zero, suc, ◌+◌, ◌-◌, ◌*◌, ◌/◌, ◌%◌, ◌<◌, ◌≤◌, ◌⊎◌, inl, inr, Bool, true, false, leb, eqb, List, [], ◌∷◌, length}
use Rattle.rh_slot.proofs.Common.{take, drop, get_or, refl, sym, ap, subst, ◌∙◌, arith, Some, None, ◌&&◌, ◌||◌, ◌==◌, nat_le, cases_eq, nat_tests}
use Rattle.rh_slot.proofs.Common.{length-take-le, take_all, PAGE, word, part, total, Segment, Used, Hole, Heap, Stand, Spells, fault_of, Flex, Slot, weight}
use Rattle.rh_slot.proofs.Common.{flex_weight, slot_start, slot_length, slot_pages, IsFree, HaveAnchors, anchor_count}
use Rattle.rh_slot.proofs.Common.{Lie, Anchored, is_block, flex_in, slot_of}
use Rattle.rh_slot.proofs.Common.{heap_place, length-part, cond_true, cond_false, eqb_same, eqb_apart, Spells-same, are_hung, BadSize, BadAnchor, SparePage}
use Rattle.std.proofs.lemmas.List.{get_or-drop, get_or-take, length-drop}
use Rattle.rh_defs.specs.HeapImage.{IsImage, heap_of}
use Rattle.rh_defs.specs.declared.heap.HeapFault.{HeapFault}
use Rattle.rh_defs.proofs.BytesLaws.{words_same, parts_same}
use Rattle.rh_defs.proofs.HeapLaws.{heap_of-Spells}
use Rattle.rh_defs.proofs.HeapFaults.{le_from, eq_from, image_clean}
use Rattle.rh_defs.proofs.SlotImageLaws.{IsBlock, is_block-is}
use Rattle.rh_slot.specs.SlotChecks.{IsSlotImage, has_slot_length, heap_bytes, has_anchor, is_hung, slot_fault_of}
use Rattle.rh_slot.specs.declared.image.SlotFault.{SlotFault}
use Rattle.rh_slot.specs.declared.image.SlotFault.TheVariants.{BadLength, BadHeap}

-- ---- a heap at another place

module _ (b c : List ℕ) (n m : ℕ) (each : (k : ℕ) → get_or c (m + k) 0 ≡ get_or b (n + k) 0) where
  byte_to : (p q k : ℕ) → m ≤ p → q + m ≡ p + n → get_or c (p + k) 0 ≡ get_or b (q + k) 0
  byte_to p q k l e =
      ap (λ i. get_or c i 0) (let x : p + k ≡ m + (p - m + k) = omega arith in x) ∙ each (p - m + k)
      ∙ ap (λ i. get_or b i 0) (let x : n + (p - m + k) ≡ q + k = omega arith in x)

  word_to : (p q : ℕ) → m ≤ p → q + m ≡ p + n → word c p ≡ word b q
  word_to p q l e = words_same b c q p (λ k h. byte_to p q k l e)

  part_to : (p q k : ℕ) → m ≤ p → q + m ≡ p + n → part c p k ≡ part b q k
  part_to p q k l e = parts_same b c q p k (λ i h. byte_to p q i l e)

  Stand_to : (f p g q : ℕ) (ss : List Segment) → m ≤ f → m ≤ p → g + m ≡ f + n → q + m ≡ p + n → Stand c f p ss → Stand b g q ss
  Stand_to f p g q [] lf lp ef ep s = sym (word_to f g lf ef) ∙ s
  Stand_to f p g q (Used bs ∷ ss) lf lp ef ep s = (
    sym (word_to p q lp ep) ∙ s.0,
    sym (part_to (p + 4) (q + 4) (length bs) (omega arith) (omega arith)) ∙ s.1,
    Stand_to f (p + (4 + length bs)) g (q + (4 + length bs)) ss lf (omega arith) ef (omega arith) s.2,
  )
  Stand_to f p g q (Hole size ∷ ss) lf lp ef ep s = (
    (let w = word_to f g lf ef in let e = s.0 in omega arith),
    sym (word_to (p + 4) (q + 4) (omega arith) (omega arith)) ∙ s.1,
    Stand_to p (p + size) q (q + size) ss lp (omega arith) ep (omega arith) s.2,
  )

  Spells_to : (h : Heap) → n + h.end ≤ length b → Spells c m h → Spells b n h
  Spells_to h fits s = record {
    heap = s.heap;
    within = fits;
    special = sym (word_to m n (omega arith) (omega arith)) ∙ s.special;
    base = sym (word_to (m + 8) (n + 8) (omega arith) (omega arith)) ∙ s.base;
    last = sym (word_to (m + 12) (n + 12) (omega arith) (omega arith)) ∙ s.last;
    stand = Stand_to (m + 4) (m + 16) (n + 4) (n + 16) h.segments (omega arith) (omega arith) (omega arith) (omega arith) s.stand;
  }

-- a list that was cut
pub record Cut (n m k : ℕ) : Type 0 where
  pub most : k ≤ n
  pub whole : k ≤ m

cut : (n : ℕ) (l : List ℕ) → Cut n (length l) (length (take n l))
cut zero l = record { most = omega arith; whole = omega arith }
cut (suc n) [] = record { most = omega arith; whole = omega arith }
cut (suc n) (x ∷ l) = let r = cut n l in let a = r.most in let c = r.whole in record { most = omega arith; whole = omega arith }

-- the C heap's bytes spell a heap just where the slot's bytes do from 256 on
pub heap_from : (b : List ℕ) (h : Heap) → IsImage (heap_bytes b) h → Spells b heap_place h
heap_from b h i =
    let d : List ℕ = drop heap_place b in
    let n = word b (heap_place + 12) in
    let c = cut n d in
    let cm = c.most in
    let cw = c.whole in
    let w = i.whole in
    let ld : length d ≡ length b - heap_place = length-drop heap_place b in
    let end : h.end ≤ length d = omega arith in
    let fits = i.spells.heap.fits in
    let s : Spells d 0 h = Spells-same (heap_bytes b) d 0 h (record { each = λ k u v. sym (get_or-take n d k 0 (omega arith)) })
    (let x : 0 + h.end ≤ length d = omega arith in x) i.spells in
    Spells_to b d heap_place 0 (λ k. ap (λ i. get_or d i 0) (let x : 0 + k ≡ k = omega arith in x) ∙ get_or-drop heap_place b k 0) h (omega arith) s

pub heap_back : (b : List ℕ) (h : Heap) → Spells b heap_place h → IsImage (heap_bytes b) h
heap_back b h s =
    let d : List ℕ = drop heap_place b in
    let n = word b (heap_place + 12) in
    let last : n ≡ h.end = s.last in
    let w = s.within in
    let ld : length d ≡ length b - heap_place = length-drop heap_place b in
    let t : Spells d 0 h = Spells_to d b 0 heap_place (λ k. sym (get_or-drop heap_place b k 0)
    ∙ ap (λ i. get_or d i 0) (let x : k ≡ 0 + k = omega arith in x)) h (let x : 0 + h.end ≤ length d = omega arith in x) s in
    let long : length (take n d) ≡ n = length-take-le n d (omega arith) in
    record {
      whole = long ∙ last;
      spells = Spells-same d (heap_bytes b) 0 h (record { each = λ k u v. get_or-take n d k 0 (omega arith) }) (omega arith) t;
    }

-- where so many are not there, all bytes behind the anchor words
pub all_behind : (b : List ℕ) (n : ℕ) → n ≡ word b (heap_place + 12) → length (take (length b - heap_place) (drop heap_place b)) ≤ n
    → take (length b - heap_place) (drop heap_place b) ≡ heap_bytes b
all_behind b n e h =
    let ld : length (drop heap_place b) ≡ length b - heap_place = length-drop heap_place b in
    let lt = length-take-le (length b - heap_place) (drop heap_place b) (omega arith) in
    take_all (length b - heap_place) (drop heap_place b) (omega arith) ∙ sym (take_all (word b (heap_place + 12)) (drop heap_place b) (omega arith))

-- ---- the blocks that are read

-- what is read at a place
abbrev pub block_at : List ℕ → ℕ → Flex
block_at b p = record { anchor = (word b p - slot_start) / 4; bytes = part b (p + 8) (word b (p + 4)) }

-- where the next one stands
abbrev pub after : List ℕ → ℕ → ℕ
after b p = p + flex_weight (word b (p + 4))

pub flex_in-yes : (k : ℕ) (b : List ℕ) (p : ℕ) → is_block b p ≡ true → flex_in (suc k) b p ≡ block_at b p ∷ flex_in k b (after b p)
unfolding flex_in
flex_in-yes k b p e = cond_true (is_block b p) _ _ e

pub flex_in-no : (k : ℕ) (b : List ℕ) (p : ℕ) → is_block b p ≡ false → flex_in k b p ≡ []
unfolding flex_in
flex_in-no zero b p e = refl
flex_in-no (suc k) b p e = cond_false (is_block b p) _ _ e

pub weight-block_at : (b : List ℕ) (p : ℕ) → p + weight (block_at b p) ≡ after b p
weight-block_at b p = ap (λ n. p + flex_weight n) (length-part b (p + 8) (word b (p + 4)))

-- blocks that lie from a place on have their anchors
pub record Rows (b : List ℕ) (p : ℕ) (fs : List Flex) : Type 0 where
  pub lie : Lie b p fs
  pub anchored : Anchored b p fs
  pub anchors : HaveAnchors fs

-- an anchor that leads to a place is that of no block above it
free_above : (b : List ℕ) (k p q : ℕ) (fs : List Flex) → Anchored b q fs → p < q → word b (4 * k) ≡ slot_start + p + 8 → IsFree k fs
free_above b k p q [] h l w = tt
free_above b k p q (f ∷ fs) h l w = (
  (λ e. let v : word b (4 * k) ≡ slot_start + q + 8 = ap (λ a. word b (4 * a)) (sym e) ∙ h.0 in absurd (omega arith)),
  free_above b k p (q + weight f) fs h.1 (omega arith) w,
)

rows_on : (b : List ℕ) (p : ℕ) (fs : List Flex) → IsBlock b p → Rows b (after b p) fs → Rows b p (block_at b p ∷ fs)
rows_on b p fs i r =
    let least = i.least in
    let most = i.most in
    let mult = i.multiple in
    let len = length-part b (p + 8) (word b (p + 4)) in
    let k = (word b p - slot_start) / 4 in
    let back : word b (4 * k) ≡ slot_start + p + 8 = ap (word b) (let x : 4 * k ≡ word b p - slot_start = omega arith in x) ∙ i.back in
    let step = sym (weight-block_at b p) in
    record {
      lie = ((let x : word b p ≡ slot_start + 4 * k = omega arith in x), sym len, ap (part b (p + 8)) len, subst (λ q. Lie b q fs) step r.lie);
      anchored = (back, subst (λ q. Anchored b q fs) step r.anchored);
      anchors = ((let x : k < anchor_count = omega arith in x), free_above b k p (after b p) fs r.anchored (omega arith) back, r.anchors);
    }

pub rows : (k : ℕ) (b : List ℕ) (p : ℕ) → Rows b p (flex_in k b p)
unfolding flex_in
rows zero b p = record { lie = tt; anchored = tt; anchors = tt }
rows (suc k) b p = go (is_block b p) refl (rows k b (after b p))
  where
    go : (t : Bool) → is_block b p ≡ t → Rows b (after b p) (flex_in k b (after b p)) → Rows b p (flex_in (suc k) b p)
    go true e r = subst (Rows b p) (sym (flex_in-yes k b p e)) (rows_on b p (flex_in k b (after b p)) (is_block-is b p e) r)
    go false e r = subst (Rows b p) (sym (flex_in-no (suc k) b p e)) (record { lie = tt; anchored = tt; anchors = tt })

-- ---- no block stands at the end

past : (b : List ℕ) (k : ℕ) → length b ≤ k → get_or b k 0 ≡ 0
past [] k h = refl
past (x ∷ b) zero h = absurd (omega arith)
past (x ∷ b) (suc k) h = past b k (omega arith)

no_word : word [] 0 ≡ 0
unfolding word
no_word = refl

word_past : (b : List ℕ) (p : ℕ) → length b ≤ p → word b p ≡ 0
word_past b p h = words_same [] b 0 p (λ k l. past b (p + k) (omega arith) ∙ sym (past [] (0 + k) (omega arith))) ∙ no_word

pub no_block : (b : List ℕ) (p : ℕ) → length b ≤ p → is_block b p ≡ false
no_block b p h = go (is_block b p) refl
  where
    go : (t : Bool) → is_block b p ≡ t → is_block b p ≡ false
    go true e = let i = is_block-is b p e in let l = i.least in absurd (omega (arith, word_past b p h))
    go false e = e

-- ---- anchor words

pub and_left : (x y : Bool) → (x && y) ≡ true → x ≡ true
and_left true y e = refl
and_left false y e = absurd cc

pub and_right : (x y : Bool) → (x && y) ≡ true → y ≡ true
and_right true y e = e
and_right false y e = absurd cc

pub and_both : (x y : Bool) → x ≡ true → y ≡ true → (x && y) ≡ true
and_both true true e f = refl
and_both true false e f = absurd cc
and_both false y e f = absurd cc

or_left : (x y : Bool) → (x || y) ≡ true → y ≡ false → x ≡ true
or_left true y e f = refl
or_left false true e f = absurd cc
or_left false false e f = absurd cc

leb_yes : (x y : ℕ) → x ≤ y → leb x y ≡ true
leb_yes x y h = grind (arith, nat_tests)

pub not_true : (a : Bool) → (a ≡ true → ⊥) → a ≡ false
not_true true f = absurd (f refl)
not_true false f = refl

pub no_anchor : (k : ℕ) (fs : List Flex) → IsFree k fs → has_anchor fs k ≡ false
no_anchor k [] u = refl
no_anchor k (f ∷ fs) u = rw (eqb_apart f.anchor k u.0) (no_anchor k fs u.1)

free_from : (k : ℕ) (fs : List Flex) → has_anchor fs k ≡ false → IsFree k fs
free_from k [] e = tt
free_from k (f ∷ fs) e = go (eqb f.anchor k) refl e (free_from k fs)
  where
    go : (t : Bool) → eqb f.anchor k ≡ t → (t || has_anchor fs k) ≡ false → (has_anchor fs k ≡ false → IsFree k fs) → IsFree k (f ∷ fs)
    go true s e rest = absurd cc
    go false s e rest = ((λ x. let y : true ≡ false = sym (eqb_same f.anchor k x) ∙ s in absurd cc), rest e)

hung_at : (b : List ℕ) (fs : List Flex) (n k : ℕ) → are_hung b fs n ≡ true → k < n → is_hung b fs k ≡ true
unfolding are_hung
hung_at b fs zero k e l = absurd (omega arith)
hung_at b fs (suc n) k e l = elim (cases_eq k n) [
  | inl s ↦ subst (λ i. is_hung b fs i ≡ true) (sym s) (and_right (are_hung b fs n) (is_hung b fs n) e)
  | inr s ↦ hung_at b fs n k (and_left (are_hung b fs n) (is_hung b fs n) e) (omega arith)
]

hung_all : (b : List ℕ) (fs : List Flex) (n : ℕ) → ((k : ℕ) → k < n → is_hung b fs k ≡ true) → are_hung b fs n ≡ true
unfolding are_hung
hung_all b fs zero f = refl
hung_all b fs (suc n) f = and_both (are_hung b fs n) (is_hung b fs n) (hung_all b fs n (λ k l. f k (omega arith))) (f n (omega arith))

none_from : (b : List ℕ) (fs : List Flex) (k : ℕ) → are_hung b fs anchor_count ≡ true → k < anchor_count → IsFree k fs → word b (4 * k) ≡ 0
none_from b fs k e l u = eq_from (word b (4 * k)) 0 (or_left (eqb (word b (4 * k)) 0) (has_anchor fs k) (hung_at b fs anchor_count k e l) (no_anchor k fs u))

one_hung : (b : List ℕ) (fs : List Flex) (k : ℕ) → (IsFree k fs → word b (4 * k) ≡ 0) → is_hung b fs k ≡ true
one_hung b fs k f = go (has_anchor fs k) refl
  where
    yes : (x y : Bool) → (x ≡ true) ⊎ (y ≡ true) → (x || y) ≡ true
    yes true y h = refl
    yes false true h = refl
    yes false false h = elim h [ inl e ↦ absurd cc | inr e ↦ absurd cc ]

    go : (t : Bool) → has_anchor fs k ≡ t → is_hung b fs k ≡ true
    go true e = yes (eqb (word b (4 * k)) 0) (has_anchor fs k) (inr e)
    go false e = yes (eqb (word b (4 * k)) 0) (has_anchor fs k) (inl (eqb_same (word b (4 * k)) 0 (f (free_from k fs e))))

-- ---- the length
pub record Length (b : List ℕ) : Type 0 where
  pub least : PAGE ≤ length b
  pub most : length b ≤ 29360128
  pub whole : length b % PAGE ≡ 0

pub length_from : (b : List ℕ) → has_slot_length b ≡ true → Length b
length_from b e =
    let r = and_left (leb PAGE (length b) && leb (length b) 29360128) (eqb (length b % PAGE) 0) e in
    record {
      least = le_from PAGE (length b) (and_left (leb PAGE (length b)) (leb (length b) 29360128) r);
      most = le_from (length b) 29360128 (and_right (leb PAGE (length b)) (leb (length b) 29360128) r);
      whole = eq_from (length b % PAGE) 0 (and_right (leb PAGE (length b) && leb (length b) 29360128) (eqb (length b % PAGE) 0) e);
    }

length_yes : (b : List ℕ) → PAGE ≤ length b → length b ≤ 29360128 → length b % PAGE ≡ 0 → has_slot_length b ≡ true
length_yes b l m e = and_both _ _ (and_both _ _ (leb_yes PAGE (length b) l) (leb_yes (length b) 29360128 m)) (eqb_same (length b % PAGE) 0 e)

-- ---- bytes of a slot

abbrev pub read : List ℕ → Slot
read b = slot_of true b

-- where the blocks begin
pub blocks_from : (b : List ℕ) → (read b).blocks ≡ flex_in (length b) b (heap_place + word b (heap_place + 12))
unfolding slot_of heap_of
blocks_from b = refl

pub long : (b : List ℕ) → slot_length (read b) ≡ heap_place + word b (heap_place + 12) + total weight
    (flex_in (length b) b (heap_place + word b (heap_place + 12)))
unfolding slot_of heap_of
long b = refl

pub heap_is : (b : List ℕ) (h : Heap) → IsImage (heap_bytes b) h → (read b).heap ≡ h
unfolding slot_of
heap_is b h i = heap_of-Spells b heap_place h (heap_from b h i)

pub is_slot : (b : List ℕ) (h : Heap) → IsImage (heap_bytes b) h → Length b → slot_length (read b) ≤ length b
    → are_hung b (read b).blocks anchor_count ≡ true → length b ≡ PAGE * slot_pages (read b) → IsSlotImage b (read b)
unfolding slot_of
is_slot b h i l within hung pages =
    let s = heap_from b h i in
    let r = rows (length b) b (heap_place + (heap_of b heap_place).end) in
    record {
      most = l.most;
      spells = record {
        words = record {
          heap = subst (Spells b heap_place) (sym (heap_of-Spells b heap_place h s)) s;
          within = within;
          lie = r.lie;
          anchored = r.anchored;
          none = λ k u v. none_from b (read b).blocks k hung u v;
          anchors = r.anchors;
        };
        pages = pages;
      };
    }

-- ---- faults
module _ (b : List ℕ) where
  pub fault-length : has_slot_length b ≡ false → slot_fault_of b ≡ Some BadLength
  unfolding slot_fault_of
  fault-length e = rw e refl

  pub fault-heap : (f : HeapFault) → has_slot_length b ≡ true → fault_of (heap_bytes b) ≡ Some f → slot_fault_of b ≡ Some (BadHeap f)
  unfolding slot_fault_of
  fault-heap f e h = rw (e, h) refl

  pub fault-size : has_slot_length b ≡ true → fault_of (heap_bytes b) ≡ None → nat_le (slot_length (read b)) (length b) ≡ false → slot_fault_of b ≡ Some BadSize
  unfolding slot_fault_of
  fault-size e h w = rw (e, h, w) refl

  pub fault-anchor : has_slot_length b ≡ true → fault_of (heap_bytes b) ≡ None → nat_le (slot_length (read b)) (length b) ≡ true
      → are_hung b (read b).blocks anchor_count ≡ false → slot_fault_of b ≡ Some BadAnchor
  unfolding slot_fault_of
  fault-anchor e h w a = rw (e, h, w, a) refl

  pub fault-page : has_slot_length b ≡ true → fault_of (heap_bytes b) ≡ None → nat_le (slot_length (read b)) (length b) ≡ true
      → are_hung b (read b).blocks anchor_count ≡ true → (length b == PAGE * slot_pages (read b)) ≡ false → slot_fault_of b ≡ Some SparePage
  unfolding slot_fault_of
  fault-page e h w a p = rw (e, h, w, a, p) refl

  pub fault-none : has_slot_length b ≡ true → fault_of (heap_bytes b) ≡ None → nat_le (slot_length (read b)) (length b) ≡ true
      → are_hung b (read b).blocks anchor_count ≡ true → (length b == PAGE * slot_pages (read b)) ≡ true → slot_fault_of b ≡ None
  unfolding slot_fault_of
  fault-none e h w a p = rw (e, h, w, a, p) refl

-- a slot's bytes have no fault
pub slot_clean : (b : List ℕ) (s : Slot) → IsSlotImage b s → s ≡ read b → slot_fault_of b ≡ None
slot_clean b s i e =
    let j : IsSlotImage b (read b) = subst (IsSlotImage b) e i in
    let w = j.spells.words in
    let p = j.spells.pages in
    fault-none b
    (length_yes b (omega arith) j.most (omega arith))
    (image_clean (heap_bytes b) (read b).heap (heap_back b (read b).heap w.heap))
    (leb_yes (slot_length (read b)) (length b) w.within)
    (hung_all b (read b).blocks anchor_count (λ k l. one_hung b (read b).blocks k (w.none k l)))
    (eqb_same (length b) (PAGE * slot_pages (read b)) p)

-- bytes with a fault are no slot's
pub refused : (b : List ℕ) (f : SlotFault) → slot_fault_of b ≡ Some f → (false ≡ true → IsSlotImage b (read b)) × (IsSlotImage b (read b) → false ≡ true)
refused b f e = (λ t. absurd cc, λ i. let n = slot_clean b (read b) i refl in let q : Some f ≡ None = sym e ∙ n in absurd cc)
