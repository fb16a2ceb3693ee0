-- The C heap of a slot gets longer, and a call on it is done.
use Rattle.rh_slot.proofs.Common.{◌≡◌, ◌≢◌, ℕ, ◌+◌, ◌*◌, ◌/◌, ◌<◌, ◌≤◌, inl, inr, Bool, true, false, ltb, eqb, List, length, refl, sym, ap, subst, ◌∙◌, arith}
use Rattle.rh_slot.proofs.Common.{cases_eq, cases_lt, ◌-◌, Option, Some, None, Ok, Err, IsErr, IsErrOf, ◌↔◌, ℤ, pos, PAGE, SameIn, SameOutside, Memory}
use Rattle.rh_slot.proofs.Common.{IsOpen, Resized, bytes, total, pages_for, zeros, moved, Split, Granted, ◌>>=◌, refuse_if, Segment, Heap, need}
use Rattle.rh_slot.proofs.Common.{claim_growing, raised, base, Spells, Flex, weight, slot_length, Span, heap_in, SpellsSlotIn, slot_in, BlockRow, Shifted}
use Rattle.rh_slot.proofs.Common.{lengthened}
use Rattle.rh_slot.proofs.Common.{heap_start, Lie, Anchored, SlotWords, SpellsSlot, flex_place, heap_place, Refusal, NoRoom, word_same, cond_true, cond_false}
use Rattle.rh_slot.proofs.Common.{eqb_same, eqb_apart, ltb_yes, ltb_no, part_of, in_below, in_above, Lie-same, Anchored-same, Spells-same, SpellsSlot-with_heap}
use Rattle.rh_defs.specs.Heap.{Placed, claim_need, placed_block, placed_in, hole_for, shortage_in, block_room, segment_size, extended}
use Rattle.rh_defs.specs.Slot.{is_stuck, with_heap, slot_claim}
use Rattle.rh_defs.specs.Slot as plain
use Rattle.rh_defs.specs.declared.heap.HeapRefusal.{HeapRefusal}
use Rattle.rh_defs.specs.declared.heap.HeapRefusal.TheVariants as heap_refusal
use Rattle.rh_defs.specs.declared.refusal.Refusal.TheVariants.{BadSize, NoBudge}
use Rattle.rh_defs.proofs.SlotImageLaws.{SlotWords-kept}
use Rattle.rh_heap.specs.HeapSpans.{IsSpan, OnlySpan}
use Rattle.rh_heap.proofs.SpanLaws.{is_span, heap_now}
use Rattle.rh_slot.specs.declared.slot.Slot.{Slot}
use Rattle.rh_slot.specs.Inner.CHeap.{after_growth}
use Rattle.rh_slot.proofs.SpanLaws.{span_of, heap_same, slot_now}

-- ---- the flex blocks slide up

-- the slot in a longer area
pub words_grown : (b c : List ℕ) (s : plain.Slot) → SpellsSlot b s → SameIn b c 0 (length b) → length b ≤ length c → SlotWords c s
words_grown b c s k o l = let f = k.words.within in SlotWords-kept b c s (part_of o (omega arith) (omega arith)) (omega arith) k.words

pub all_blocks : (b : List ℕ) (s : plain.Slot) (from n : ℕ) → SlotWords b s → from ≡ flex_place s → from + n ≡ slot_length s → BlockRow b from n
all_blocks b s from n w e q = record { blocks = s.blocks; lie = subst (λ p. Lie b p s.blocks) (sym e) w.lie; sum = omega arith; anchors = w.anchors }

-- the blocks have slid, and then a heap with the higher end stands below them
pub budged : (b c d : List ℕ) (s : plain.Slot) (h : Heap) (more from to n edge : ℕ) → SlotWords b s → from ≡ flex_place s → to ≡ from + more
    → from + n ≡ slot_length s → to + n ≤ length b → ((fs : List Flex) → Lie b from fs → total weight fs ≡ n → Shifted b c to fs) → length c ≡ length b
    → SameOutside c d heap_place edge → edge ≤ to → Spells d heap_place h → h.end ≡ s.heap.end + more → SlotWords d (with_heap h s)
budged b c d s h more from to n edge w ef et en fits sh len o low k eh =
    let x = sh s.blocks (subst (λ p. Lie b p s.blocks) (sym ef) w.lie) (omega arith) in
    let ld = o.len in
    let q : to ≡ heap_place + h.end = omega arith in
    record {
      heap = k;
      within = omega arith;
      lie = subst (λ p. Lie d p s.blocks) q (Lie-same c d to (to + n) s.blocks (in_above o (omega arith)) (omega arith) x.lie);
      anchored = subst (λ p. Anchored d p s.blocks) q (Anchored-same c d to s.blocks w.anchors (in_below o (omega arith)) x.hung.anchored);
      none = λ j u v. word_same c d (4 * j) (in_below o (omega arith)) ∙ x.hung.others j u v ∙ w.none j u v;
      anchors = w.anchors;
    }

-- the heap's end moved up by a number of bytes
moved_up : (n k : ℕ) (delta : ℤ) → delta ≡ pos k → moved n delta ≡ n + k
moved_up n k delta e = ap (moved n) e

pub raised_by : (k more : ℕ) (delta : ℤ) (h g : Heap) → delta ≡ pos more → more ≡ pages_for k * PAGE → g ≡ h → extended delta g ≡ raised k h
raised_by k more delta h g e m q =
    ap (extended delta) q ∙ ap (λ (n : ℕ). let r : Heap = record h { end = n } in r)
    (moved_up h.end more delta e ∙ (let z : h.end + more ≡ h.end + PAGE * ((k + (PAGE - 1)) / PAGE) = omega arith in z))

-- the blocks have slid away from the heap's end
pub record Slid (m : Memory) (span : Span) (s : plain.Slot) (more : ℕ) : Type 0 where
  pub is_span : IsSpan m span
  pub heap : heap_in m span ≡ s.heap
  pub room : span.at + (s.heap.end + more) ≤ length (bytes m span.area.0)

pub slid : (l m n : Memory) (slot : Slot) (span : Span) (from top more : ℕ)
    → (let s = slot_in l slot in SpellsSlotIn l slot s → Resized l m slot.area.0 (length (bytes l slot.area.0)) (pages_for (top + more))
    → IsOpen n slot.area.0 → SameIn (bytes m slot.area.0) (bytes n slot.area.0) heap_place (from + more)
    → length (bytes n slot.area.0) ≡ length (bytes m slot.area.0) → from ≡ flex_place s → top ≡ slot_length s → span ≡ span_of slot → Slid n span s more)
slid l m n slot span from top more k r o same len ef et e =
    let s = slot_in l slot in
    let big = r.len in
    let first = words_grown (bytes l slot.area.0) (bytes m slot.area.0) s k r.same (let p = k.pages in omega arith) in
    let spells : Spells (bytes n slot.area.0) heap_place s.heap = Spells-same (bytes m slot.area.0) (bytes n slot.area.0) heap_place s.heap
    (part_of same (omega arith) (omega arith)) (let w = first.within in omega arith) first.heap in
    subst (λ (x : Span). Slid n x s more) (sym e) (record {
      is_span = is_span n (span_of slot) s.heap o spells;
      heap = heap_now n (span_of slot) s.heap spells;
      room = omega arith;
    })

-- ---- what a call gives whose heap may have to grow

-- the answer where the heap has to grow and nothing more is asked
abbrev pub Gives : Granted (Unit {0}) → ℕ → ℕ → plain.Slot → Type 0
Gives r free k s = r ≡ after_growth free k s (tt {0})

pub growth_none : (free k : ℕ) (s : plain.Slot) → k ≡ 0 → Gives (Ok (tt {0})) free k s
unfolding after_growth ◌>>=◌ refuse_if
growth_none free k s e = rw e (rw (ltb_no free 0 (omega arith)) refl)

pub growth_stuck : (free k : ℕ) (s : plain.Slot) → is_stuck k s ≡ true → Gives (Err NoBudge) free k s
unfolding after_growth ◌>>=◌ refuse_if
growth_stuck free k s e = rw e refl

pub growth_full : (free k : ℕ) (s : plain.Slot) → is_stuck k s ≡ false → free < pages_for k → Gives (Err NoRoom) free k s
unfolding after_growth ◌>>=◌ refuse_if
growth_full free k s e l = rw (e, ltb_yes free (pages_for k) l) refl

pub growth_done : (free k : ℕ) (s : plain.Slot) → is_stuck k s ≡ false → pages_for k ≤ free → Gives (Ok (tt {0})) free k s
unfolding after_growth ◌>>=◌ refuse_if
growth_done free k s e l = rw (e, ltb_no free (pages_for k) l) refl

pub growth_by : (r : Granted (Unit {0})) (free k : ℕ) (s : plain.Slot) → is_stuck k s ≡ false → (IsErr r ↔ (free < pages_for k))
    → (IsErr r → IsErrOf r NoRoom) → Gives r free k s
growth_by (Ok x) free k s e i n = growth_done free k s e (elim (cases_lt free (pages_for k)) [ inl l ↦ absurd (let q = i.1 l in cc) | inr h ↦ h ])
growth_by (Err x) free k s e i n = (let q = n refl in cc) ∙ growth_full free k s e (i.0 refl)

-- refused or done, whatever it gives
module _ {A : Type 0} (free k : ℕ) (s : plain.Slot) (given : A) where
  abbrev by_tests : {B : Type 0} → Bool → Bool → B → Granted B
  by_tests t u x = refuse_if t NoBudge >>= λ _. (refuse_if u NoRoom >>= λ _. Ok x)

  err_by : (t u : Bool) (e : Refusal) → ◌≡◌ {A = Granted (Unit {0})} (Err e) (by_tests t u (tt {0})) → by_tests t u given ≡ Err e
  unfolding ◌>>=◌ refuse_if
  err_by true u e h = cc
  err_by false true e h = cc
  err_by false false e h = absurd cc

  pub growth_err : (e : Refusal) → Gives (Err e) free k s → after_growth free k s given ≡ Err e
  unfolding after_growth
  growth_err e h = err_by (is_stuck k s) (ltb free (pages_for k)) e h

  ok_by : (t u : Bool) → ◌≡◌ {A = Granted (Unit {0})} (Ok (tt {0})) (by_tests t u (tt {0})) → by_tests t u given ≡ Ok given
  unfolding ◌>>=◌ refuse_if
  ok_by true u h = absurd cc
  ok_by false true h = absurd cc
  ok_by false false h = refl

  pub growth_ok : Gives (Ok (tt {0})) free k s → after_growth free k s given ≡ Ok given
  unfolding after_growth
  growth_ok h = ok_by (is_stuck k s) (ltb free (pages_for k)) h

-- ---- claims where the heap may have to grow

end-placed_in : (bs : List ℕ) (h : Heap) (o : Option (Split Segment)) → (placed_in bs h o).heap.end ≡ h.end
end-placed_in bs h None = refl
end-placed_in bs h (Some s) = refl

end-placed : (bs : List ℕ) (h : Heap) → (placed_block bs h).heap.end ≡ h.end
end-placed bs h = end-placed_in bs h (hole_for (4 + length bs) h.segments)

pub end-claim_growing : (n : ℕ) (h : Heap) → (claim_growing n h).heap.end ≡ (raised (need n h) h).end
end-claim_growing n h = end-placed (zeros (block_room n)) (raised (need n h) h)

pub slot_claim-growth : (free n : ℕ) (s : plain.Slot) → n ≢ 0
    → slot_claim free n s ≡ after_growth free (need n s.heap) s (with_heap (claim_growing n s.heap).heap s, heap_start + (claim_growing n s.heap).address)
unfolding slot_claim after_growth ◌>>=◌ refuse_if
slot_claim-growth free n s ne = rw (eqb_apart n 0 ne) refl

pub slot_claim-zero : (free n : ℕ) (s : plain.Slot) → n ≡ 0 → slot_claim free n s ≡ Err BadSize
unfolding slot_claim ◌>>=◌ refuse_if
slot_claim-zero free n s e = rw e refl

-- ---- the heap's own call, in a heap that is long enough

-- a block was placed in the longer heap
pub placed_there : (m n : Memory) (slot : Slot) (s : plain.Slot) (k : ℕ) (p : Placed) → SpellsSlotIn m slot (lengthened k s) → s.budging ≡ slot.budge
    → p.heap.end ≡ (raised k s.heap).end
    → OnlySpan m n (span_of slot) → Spells (bytes n slot.area.0) heap_place p.heap → SpellsSlotIn n slot (with_heap p.heap s)
placed_there m n slot s k p w b q o h =
    let now : (heap_in m (span_of slot)).end ≡ (raised k s.heap).end =
    ap (λ (x : Heap). x.end) (heap_same m slot ∙ ap (λ (x : plain.Slot). x.heap) (slot_now m slot (lengthened k s) w b)) in
    SpellsSlot-with_heap (bytes m slot.area.0) (bytes n slot.area.0) (lengthened k s) p.heap w
    (subst (λ i. SameOutside (bytes m slot.area.0) (bytes n slot.area.0) heap_place (heap_place + i)) now o.outside) h q

-- what a claim's need says
pub need_ok : (n k : ℕ) (h : Heap) → Ok k ≡ claim_need n h → (n ≢ 0) × (k ≡ need n h)
need_ok n k h e = elim (cases_eq n 0) [
  | inl z ↦ absurd (let f = e ∙ cond_true (eqb n 0) _ _ (eqb_same n 0 z) in cc)
  | inr ne ↦ (ne, let f = e ∙ cond_false (eqb n 0) _ _ (eqb_apart n 0 ne) in cc)
]

pub need_err : (n : ℕ) (f : HeapRefusal) (h : Heap) → Err f ≡ claim_need n h → (n ≡ 0) × (f ≡ heap_refusal.BadSize)
need_err n f h e = elim (cases_eq n 0) [
  | inl z ↦ (z, let q = e ∙ cond_true (eqb n 0) _ _ (eqb_same n 0 z) in cc)
  | inr ne ↦ absurd (let q = e ∙ cond_false (eqb n 0) _ _ (eqb_apart n 0 ne) in cc)
]

shortage_most : (t : ℕ) (h : Heap) (o : Option (Split Segment)) → base h ≤ h.end → shortage_in t h o ≤ t
shortage_most t h None l = omega arith
shortage_most t h (Some s) l = omega arith

pub need_most : (n : ℕ) (h : Heap) → base h ≤ h.end → need n h ≤ n + 12
need_most n h l = let m = shortage_most (segment_size n) h (hole_for (segment_size n) h.segments) l in omega arith
