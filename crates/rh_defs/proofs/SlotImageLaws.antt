-- Laws of bytes that spell a slot: they spell at most one, and what keeps them so.
use Rattle.rh_defs.proofs.Common.{◌≡◌, ℕ, zero, suc, ◌+◌, ◌-◌, ◌*◌, ◌/◌, ◌%◌, ◌<◌, ◌≤◌, ◌≢◌, inl, inr, Bool, true, false, List, [], ◌∷◌, length, leb, ltb}
use Rattle.rh_defs.proofs.Common.{eqb, refl, sym, ap, subst, ◌∙◌, arith, cases_eq, nat_tests, ◌&&◌, word, part, SameIn, SameOutside, total, Heap, Spells}
use Rattle.rh_defs.proofs.Common.{Flex, Slot, flex_weight, weight, slot_length, IsFree, HaveAnchors, with_heap, heap_start, anchor_count, word_same}
use Rattle.rh_defs.specs.HeapImage.{heap_of}
use Rattle.rh_defs.specs.Slot.{slot_start}
use Rattle.rh_defs.specs.SlotImage.{Lie, Anchored, SlotWords, SpellsSlot, flex_place, is_block, flex_in, slot_of, heap_place}
use Rattle.rh_defs.proofs.HeapLists.{cond_true, cond_false, ltb_yes}
use Rattle.rh_defs.proofs.HeapLaws.{heap_of-Spells}
use Rattle.rh_defs.proofs.SlotLaws.{part_of, in_below, in_above, flex_same, Lie-same, Anchored-same, Spells-same}

-- ---- the test for a block

-- what the test finds in a header
pub record IsBlock (b : List ℕ) (p : ℕ) : Type 0 where
  pub least : slot_start ≤ word b p
  pub most : word b p < heap_start
  pub multiple : word b p % 4 ≡ 0
  pub back : word b (word b p - slot_start) ≡ slot_start + p + 8

leb_yes : (x y : ℕ) → x ≤ y → leb x y ≡ true
leb_yes x y h = grind (arith, nat_tests)

eqb_yes : (x y : ℕ) → x ≡ y → eqb x y ≡ true
eqb_yes x y h = grind (arith, nat_tests)

le_from : (x y : ℕ) → leb x y ≡ true → x ≤ y
le_from x y h = grind (arith, nat_tests)

lt_from : (x y : ℕ) → ltb x y ≡ true → x < y
lt_from x y h = grind (arith, nat_tests)

eq_from : (x y : ℕ) → eqb x y ≡ true → x ≡ y
eq_from x y h = grind (arith, nat_tests)

both : (x y : Bool) → (x && y) ≡ true → (x ≡ true) × (y ≡ true)
both true y e = (refl, e)
both false y e = absurd (cc)

not_true : (t : Bool) → (t ≡ true → ⊥) → t ≡ false
not_true true h = absurd (h refl)
not_true false h = refl

pub is_block-yes : (b : List ℕ) (p : ℕ) → IsBlock b p → is_block b p ≡ true
is_block-yes b p i =
    rw (
      leb_yes slot_start (word b p) i.least,
      ltb_yes (word b p) heap_start i.most,
      eqb_yes (word b p % 4) 0 i.multiple,
      eqb_yes (word b (word b p - slot_start)) (slot_start + p + 8) i.back,
    ) refl

pub is_block-is : (b : List ℕ) (p : ℕ) → is_block b p ≡ true → IsBlock b p
is_block-is b p e =
    let r = both _ _ e in
    let q = both _ _ r.0 in
    let u = both _ _ q.0 in
    record { least = le_from _ _ u.0; most = lt_from _ _ u.1; multiple = eq_from _ _ q.1; back = eq_from _ _ r.1 }

-- it holds at a block
pub is_block-here : (b : List ℕ) (p : ℕ) (f : Flex) (fs : List Flex) → Lie b p (f ∷ fs) → Anchored b p (f ∷ fs) → f.anchor < anchor_count → is_block b p ≡ true
is_block-here b p f fs l h small =
    let head = l.0 in
    is_block-yes b p (record { least = omega arith; most = omega arith; multiple = omega arith; back = ap (word b) (omega arith) ∙ h.0 })

-- an anchor word leads to a block, or no block has the anchor
pub data Leads (b : List ℕ) (k p : ℕ) (fs : List Flex) : Type 0 where
  leads_nowhere : IsFree k fs → Leads b k p fs
  leads_to : (q : ℕ) → word b (4 * k) ≡ slot_start + q + 8 → p ≤ q → q + 8 ≤ p + total weight fs → Leads b k p fs

leads_behind : (b : List ℕ) (k p : ℕ) (f : Flex) (fs : List Flex) → f.anchor ≢ k → Leads b k (p + weight f) fs → Leads b k p (f ∷ fs)
leads_behind b k p f fs ne (leads_nowhere u) = leads_nowhere (ne, u)
leads_behind b k p f fs ne (leads_to q e l m) = leads_to q e (omega arith) (omega arith)

pub leads : (b : List ℕ) (k p : ℕ) (fs : List Flex) → Anchored b p fs → Leads b k p fs
leads b k p [] h = leads_nowhere tt
leads b k p (f ∷ fs) h = elim (cases_eq f.anchor k) [
  | inl e ↦ leads_to p (ap (λ i. word b (4 * i)) (sym e) ∙ h.0) (omega arith) (omega arith)
  | inr ne ↦ leads_behind b k p f fs ne (leads b k (p + weight f) fs h.1)
]

-- and not above the last block
pub is_block-top : (b : List ℕ) (s : Slot) (p : ℕ) → SlotWords b s → p ≡ slot_length s → is_block b p ≡ false
is_block-top b s p w e = not_true (is_block b p) (λ z. none (is_block-is b p z))
  where
    none : IsBlock b p → ⊥
    none i =
        let k = (word b p - slot_start) / 4 in
        let small : k < anchor_count = let m = i.most in omega arith in
        let at : word b (4 * k) ≡ slot_start + p + 8 = ap (word b) (let m = i.multiple in let l = i.least in omega arith) ∙ i.back in
        elim (leads b k (flex_place s) s.blocks w.anchored) [
          | leads_nowhere u ↦ let z = w.none k small u in omega arith
          | leads_to q f l m ↦ omega arith
        ]

-- ---- the bytes spell at most one slot

pub flex_in-Lie : (k : ℕ) (b : List ℕ) (p t : ℕ) (fs : List Flex) → Lie b p fs → Anchored b p fs → HaveAnchors fs → p + total weight fs ≡ t
    → is_block b t ≡ false → total weight fs ≤ k → flex_in k b p ≡ fs
unfolding flex_in
flex_in-Lie zero b p t [] l h a e n m = refl
flex_in-Lie zero b p t (f ∷ fs) l h a e n m = absurd (omega arith)
flex_in-Lie (suc k) b p t [] l h a e n m = cond_false (is_block b p) _ _ (ap (is_block b) (omega arith) ∙ n)
flex_in-Lie (suc k) b p t (f ∷ fs) l h a e n m =
    let head = l.0 in
    let size = l.1 in
    let small = a.0 in
    let bytes : part b (p + 8) (word b (p + 4)) ≡ f.bytes = ap (part b (p + 8)) size ∙ l.2 in
    cond_true (is_block b p) _ _ (is_block-here b p f fs l h small)
    ∙ ap (λ r. r ∷ flex_in k b (p + flex_weight (word b (p + 4)))) (flex_same
    (record { anchor = (word b p - slot_start) / 4; bytes = part b (p + 8) (word b (p + 4)) }) f
    (let q : (word b p - slot_start) / 4 ≡ f.anchor = omega arith in q) bytes)
    ∙ ap (λ r. f ∷ r) (ap (λ n. flex_in k b (p + flex_weight n)) size ∙ flex_in-Lie k b (p + weight f) t fs l.3 h.1 a.2 (omega arith) n (omega arith))

-- the slot with budging on or off, which does not stand in the bytes
abbrev pub with_budging : Bool → Slot → Slot
with_budging on s = record s { budging = on }

pub slot_of-SlotWords : (on : Bool) (b : List ℕ) (s : Slot) → SlotWords b s → slot_of on b ≡ with_budging on s
unfolding slot_of
slot_of-SlotWords on b s w =
    let h : heap_of b heap_place ≡ s.heap = heap_of-Spells b heap_place s.heap w.heap in
    let fits = w.within in
    let d : flex_in (length b) b (heap_place + (heap_of b heap_place).end) ≡ s.blocks =
    ap (λ (i : Heap). flex_in (length b) b (heap_place + i.end)) h
    ∙ flex_in-Lie (length b) b (flex_place s) (slot_length s) s.blocks w.lie w.anchored w.anchors refl (is_block-top b s (slot_length s) w refl)
    (omega arith) in
    ap (λ (i : Heap). let r : Slot = record { heap = i; blocks = flex_in (length b) b (heap_place + (heap_of b heap_place).end); budging = on } in r) h
    ∙ ap (λ (l : List Flex). let r : Slot = record { heap = s.heap; blocks = l; budging = on } in r) d

pub slot_of-SpellsSlot : (b : List ℕ) (s : Slot) → SpellsSlot b s → slot_of s.budging b ≡ s
slot_of-SpellsSlot b s k = slot_of-SlotWords s.budging b s k.words

pub SpellsSlot-budging : (on : Bool) (b : List ℕ) (s : Slot) → SpellsSlot b s → SpellsSlot b (with_budging on s)
SpellsSlot-budging on b s k =
    let w = k.words in
    record { words = record { heap = w.heap; within = w.within; lie = w.lie; anchored = w.anchored; none = w.none; anchors = w.anchors }; pages = k.pages }

-- ---- bytes that stay

-- the slot's bytes stay, and what is behind them does not matter
pub SlotWords-kept : (b c : List ℕ) (s : Slot) → SameIn b c 0 (slot_length s) → slot_length s ≤ length c → SlotWords b s → SlotWords c s
SlotWords-kept b c s o l w = record {
  heap = Spells-same b c heap_place s.heap (part_of o (omega arith) (omega arith)) (omega arith) w.heap;
  within = l;
  lie = Lie-same b c (flex_place s) (slot_length s) s.blocks (part_of o (omega arith) (omega arith)) (omega arith) w.lie;
  anchored = Anchored-same b c (flex_place s) s.blocks w.anchors (part_of o (omega arith) (omega arith)) w.anchored;
  none = λ k u v. word_same b c (4 * k) (part_of o (omega arith) (omega arith)) ∙ w.none k u v;
  anchors = w.anchors;
}

-- another heap with the same end in the C heap's bytes
pub SlotWords-with_heap : (b c : List ℕ) (s : Slot) (h : Heap) → SlotWords b s → SameOutside b c heap_place (heap_place + s.heap.end) → Spells c heap_place h
    → h.end ≡ s.heap.end → SlotWords c (with_heap h s)
SlotWords-with_heap b c s h w o k e =
    let l = w.within in
    let len = o.len in
    let anchors : SameIn b c 0 heap_place = in_below o (omega arith) in
    record {
      heap = k;
      within = omega arith;
      lie = subst (λ p. Lie c p s.blocks) (ap (λ n. heap_place + n) (sym e))
          (Lie-same b c (flex_place s) (slot_length s) s.blocks (in_above o (omega arith)) (omega arith) w.lie);
      anchored = subst (λ p. Anchored c p s.blocks) (ap (λ n. heap_place + n) (sym e)) (Anchored-same b c (flex_place s) s.blocks w.anchors anchors w.anchored);
      none = λ j u v. word_same b c (4 * j) (part_of anchors (omega arith) (omega arith)) ∙ w.none j u v;
      anchors = w.anchors;
    }

-- and then the bytes spell that slot
pub SpellsSlot-with_heap : (b c : List ℕ) (s : Slot) (h : Heap) → SpellsSlot b s → SameOutside b c heap_place (heap_place + s.heap.end)
    → Spells c heap_place h → h.end ≡ s.heap.end → SpellsSlot c (with_heap h s)
SpellsSlot-with_heap b c s h j o k e = record {
  words = SlotWords-with_heap b c s h j.words o k e;
  pages = let len = o.len in let p = j.pages in omega arith;
}
