-- The calls on the C heap of a slot: what each answers and leaves.
use Rattle.rh_slot.proofs.Common.{◌≡◌, ◌≢◌, ℕ, ◌+◌, ◌-◌, ◌≤◌, inl, inr, Bool, true, false, ltb, eqb, List, [], ◌∷◌, ◌++◌, length, refl, sym, ap, subst, ◌∙◌}
use Rattle.rh_slot.proofs.Common.{arith, cases_eq, IfSome, cond, Option, Some, None, Result, Ok, Err, IsOk, ok_or, ℤ, pos, negsuc, SFits, heap_place}
use Rattle.rh_slot.proofs.Common.{SameOutside, Memory, OnlyArea, bytes, total, pages_for, zeros, moved, Split, Granted, left_of, no_answer, ◌>>=◌, refuse_if}
use Rattle.rh_slot.proofs.Common.{found_or, Segment, Used, Hole, Heap, need, claim_growing, raised, size_of, bytes_of, fitted, block_at, base, Spells}
use Rattle.rh_slot.proofs.Common.{flex_weight, slot_length, slot_pages, heap_block_at, heap_start, Refusal, cond_true, cond_false, eqb_same}
use Rattle.rh_slot.proofs.Common.{eqb_apart, IsCut, first_at-cuts, OnlyArea-from_Edited, heap_in, Span, IsSlotIn, SpellsSlotIn, slot_in, LeavesSlotIn}
use Rattle.rh_slot.proofs.Common.{lengthened}
use Rattle.rh_slot.proofs.Common.{SpellsSlot-with_heap}
use Rattle.std.proofs.Common.{w32}
use Rattle.rh_defs.specs.Pieces.{round_up, page_size}
use Rattle.rh_defs.specs.Chain.{answer_of}
use Rattle.rh_defs.specs.Heap.{Placed, Way, Stays, Shrinks, GrowsIntoHole, GrowsAtTop, MovesToHole, MovesToTop, claim_block, claim_need, placed_in, hole_for}
use Rattle.rh_defs.specs.Heap.{is_hole_for, way_beyond, way_to_grow, block_room, resized, resized_by, resize_block, resize_found, resize_need, resize_growing}
use Rattle.rh_defs.specs.Heap.{need_found, new_size, way_to, segment_size, released, release_block, release_found, is_block_at, released_at, as_granted}
use Rattle.rh_defs.specs.Heap.{refusal_of}
use Rattle.rh_defs.specs.Heap.{place_after, end_for}
use Rattle.rh_defs.specs.Slot.{is_stuck, with_heap, slot_claim, slot_resize, slot_release, slot_take_pages}
use Rattle.rh_defs.specs.Slot as plain
use Rattle.rh_defs.specs.declared.heap.HeapRefusal.{HeapRefusal}
use Rattle.rh_defs.specs.declared.heap.HeapRefusal.TheVariants as heap_refusal
use Rattle.rh_defs.specs.declared.refusal.Refusal.TheVariants.{NotABlock, NoBudge}
use Rattle.rh_defs.proofs.Cuts.{total-append}
use Rattle.rh_defs.proofs.HeapCalls.{released_at-some, released-found, released-refused}
use Rattle.rh_defs.proofs.MemoryLaws.{OnlyArea-self}
use Rattle.rh_defs.proofs.HeapGrowth.{claim-raised, resize-raised, resize_need-raised, raised-none, claim-granted, resize-granted}
use Rattle.rh_heap.specs.HeapCalls as heap_calls
use Rattle.rh_slot.specs.declared.slot.Slot.{Slot}
use Rattle.rh_slot.specs.Inner.CHeap.{after_growth}
use Rattle.rh_slot.proofs.SpanLaws.{span_of, heap_same, slot_now, budging_same}
use Rattle.rh_slot.proofs.LeaveLaws.{leaves, refuses, then_edited}
use Rattle.rh_slot.proofs.GrowLaws.{Gives, growth_none, growth_ok, growth_err, placed_there, slot_claim-growth, slot_claim-zero, end-claim_growing, need_ok}
use Rattle.rh_slot.proofs.GrowLaws.{need_err}

-- the heap in the span once it is longer
longer : (m : Memory) (slot : Slot) (s : plain.Slot) (k : ℕ) → SpellsSlotIn m slot (lengthened k s) → s.budging ≡ slot.budge
    → heap_in m (span_of slot) ≡ raised k s.heap
longer m slot s k w b = heap_same m slot ∙ ap (λ (x : plain.Slot). x.heap) (slot_now m slot (lengthened k s) w b)

-- the heap's own call places a block, so the slot's is done
done_there : (o m n : Memory) (slot : Slot) (k : ℕ) (p : Placed) (call : Granted (plain.Slot × ℕ)) (own : Result (Heap × ℕ) HeapRefusal) (address : ℕ)
    → (let s = slot_in o slot in SpellsSlotIn m slot (lengthened k s) → call ≡ after_growth o.free k s (with_heap p.heap s, heap_start + p.address)
    → Gives (Ok (tt {0})) o.free k s → p.heap.end ≡ (raised k s.heap).end
    → own ≡ Ok (as_granted p) → heap_calls.LeavesHeap m n (span_of slot) own (Ok address) → OnlyArea o m slot.area.0
    → LeavesSlotIn o n slot call (Ok (heap_start + address)))
done_there o m n slot k p call own address w e g q is l only =
    let s = slot_in o slot in
    let same : ◌≡◌ {A = Result ℕ HeapRefusal} (Ok p.address) (Ok address) = sym (l.answer ∙ ap answer_of is) in
    let there : p.address ≡ address = cc in
    leaves o n slot call (with_heap p.heap s) (heap_start + address) (e ∙ growth_ok o.free k s (with_heap p.heap s, heap_start + p.address) g
    ∙ ap (λ i. Ok (with_heap p.heap s, heap_start + i)) there) (budging_same o slot)
    (placed_there m n slot s k p w (budging_same o slot) q l.only (subst
    (λ x. Spells (bytes n slot.area.0) heap_place (left_of (heap_in m (span_of slot)) x)) is l.spells))
    (then_edited only l.only)

-- and it is not refused
is_done : {m n : Memory} {span : Span} {r : Result ℕ HeapRefusal} (p : Placed) (own : Result (Heap × ℕ) HeapRefusal) → own ≡ Ok (as_granted p)
    → heap_calls.LeavesHeap m n span own r → IsOk r
is_done p own is l = rw (l.answer ∙ ap answer_of is) refl

-- ---- claims

pub claim_longer : (m : Memory) (slot : Slot) (s : plain.Slot) (k n : ℕ) → SpellsSlotIn m slot (lengthened k s) → s.budging ≡ slot.budge → n ≢ 0
    → k ≡ need n s.heap → claim_block n (heap_in m (span_of slot)) ≡ Ok (as_granted (claim_growing n s.heap))
claim_longer m slot s k n w b ne e = ap (claim_block n) (longer m slot s k w b) ∙ ap (λ i. claim_block n (raised i s.heap)) e ∙ claim-raised n s.heap ne

pub claimed : (o m l : Memory) (slot : Slot) (k n address : ℕ)
    → (let s = slot_in o slot in SpellsSlotIn m slot (lengthened k s) → n ≢ 0 → k ≡ need n s.heap → Gives (Ok (tt {0})) o.free k s
    → heap_calls.LeavesHeap m l (span_of slot) (claim_block n (heap_in m (span_of slot))) (Ok address) → OnlyArea o m slot.area.0
    → LeavesSlotIn o l slot (slot_claim o.free n s) (Ok (heap_start + address)))
claimed o m l slot k n address w ne e g there only =
    let s = slot_in o slot in
    done_there o m l slot k (claim_growing n s.heap) (slot_claim o.free n s) (claim_block n (heap_in m (span_of slot))) address w
    (slot_claim-growth o.free n s ne
    ∙ ap (λ i. after_growth o.free i s (with_heap (claim_growing n s.heap).heap s, heap_start + (claim_growing n s.heap).address)) (sym e)) g
    (end-claim_growing n s.heap ∙ ap (λ i. (raised i s.heap).end) (sym e)) (claim_longer m slot s k n w (budging_same o slot) ne e) there only

pub claim_is_done : (o m l : Memory) (slot : Slot) (k n : ℕ) {r : Result ℕ HeapRefusal}
    → (let s = slot_in o slot in SpellsSlotIn m slot (lengthened k s) → n ≢ 0 → k ≡ need n s.heap
    → heap_calls.LeavesHeap m l (span_of slot) (claim_block n (heap_in m (span_of slot))) r → IsOk r)
claim_is_done o m l slot k n w ne e there = let s =
    slot_in o slot in is_done (claim_growing n s.heap) (claim_block n (heap_in m (span_of slot))) (claim_longer m slot s k n w (budging_same o slot) ne e) there

-- ---- resizes

end-release_found : (o : Option (Split Segment)) (h : Heap) → (release_found o h).end ≡ h.end
end-release_found None h = refl
end-release_found (Some s) h = refl

end-resized_by : (w : Way) (bs : List ℕ) (s : Split Segment) (h : Heap) → (resized_by w bs s h).heap.end ≡ h.end
end-resized_by Stays bs s h = refl
end-resized_by Shrinks bs s h = refl
end-resized_by (GrowsIntoHole n rest) bs s h = refl
end-resized_by GrowsAtTop bs s h = refl
end-resized_by (MovesToHole hole) bs s h = end-release_found _ _
end-resized_by MovesToTop bs s h = end-release_found _ _

end-resize_growing : (n : ℕ) (b : Split Segment) (h : Heap) → (resize_growing n b h).heap.end ≡ (raised (resize_need n b h) h).end
end-resize_growing n b h = end-resized_by (way_to (segment_size n) b h) (fitted (block_room n) (bytes_of b.here)) b (raised (resize_need n b h) h)

-- the block that a resize finds, and its shortage
pub record Resizes (delta : ℤ) (o : Option (Split Segment)) (h : Heap) (k : ℕ) : Type 0 where
  pub block : Split Segment
  pub found : o ≡ Some block
  pub some : new_size delta block ≢ 0
  pub short : k ≡ resize_need (new_size delta block) block h

pub need_found_ok : (delta : ℤ) (o : Option (Split Segment)) (h : Heap) (k : ℕ) → Ok k ≡ need_found delta o h → Resizes delta o h k
need_found_ok delta None h k e = absurd cc
need_found_ok delta (Some b) h k e = elim (cases_eq (new_size delta b) 0) [
  | inl z ↦ absurd (let f = e ∙ cond_true (eqb (new_size delta b) 0) _ _ (eqb_same (new_size delta b) 0 z) in cc)
  | inr ne ↦ record
      { block = b; found = refl; some = ne; short = (let f = e ∙ cond_false (eqb (new_size delta b) 0) _ _ (eqb_apart (new_size delta b) 0 ne) in cc) }
]

pub slot_resize-growth : (free address : ℕ) (delta : ℤ) (s : plain.Slot) (b : Split Segment) → heap_block_at address s ≡ Some b → new_size delta b ≢ 0
    → slot_resize free address delta s ≡ after_growth free (resize_need (new_size delta b) b s.heap) s
    (with_heap (resize_growing (new_size delta b) b s.heap).heap s, heap_start + (resize_growing (new_size delta b) b s.heap).address)
unfolding slot_resize after_growth ◌>>=◌ refuse_if found_or
slot_resize-growth free address delta s b e ne = rw e (rw (eqb_apart (new_size delta b) 0 ne) refl)

-- a refusal of the heap is the slot's
pub resize_refused : (free address : ℕ) (delta : ℤ) (s : plain.Slot) (o : Option (Split Segment)) (f : HeapRefusal) → heap_block_at address s ≡ o
    → Err f ≡ need_found delta o s.heap → slot_resize free address delta s ≡ Err (refusal_of f)
unfolding slot_resize ◌>>=◌ refuse_if found_or
resize_refused free address delta s None f e n = rw e (let q : heap_refusal.NotABlock ≡ f = cc in ap (λ i. Err (refusal_of i)) q)
resize_refused free address delta s (Some b) f e n = elim (cases_eq (new_size delta b) 0) [
  | inl z ↦ rw e (rw (eqb_same (new_size delta b) 0 z) (let q : heap_refusal.BadSize ≡ f =
      (let i = n ∙ cond_true (eqb (new_size delta b) 0) _ _ (eqb_same (new_size delta b) 0 z) in cc) in ap (λ i. Err (refusal_of i)) q))
  | inr ne ↦ absurd (let i = n ∙ cond_false (eqb (new_size delta b) 0) _ _ (eqb_apart (new_size delta b) 0 ne) in cc)
]

resize_found-raised : (delta : ℤ) (b : Split Segment) (h : Heap) (k : ℕ) → new_size delta b ≢ 0 → k ≡ resize_need (new_size delta b) b h
    → resize_found delta (Some b) (raised k h) ≡ Ok (as_granted (resize_growing (new_size delta b) b h))
resize_found-raised delta b h k ne e =
    let n = new_size delta b in
    cond_false (eqb n 0) _ _ (eqb_apart n 0 ne)
    ∙ ap (λ i. cond (eqb (resize_need n b (raised i h)) 0) (Ok (as_granted (resized n b (raised i h) (raised i h)))) (Err heap_refusal.NoRoom)) e
    ∙ cond_true (eqb (resize_need n b (raised (resize_need n b h) h)) 0) _ _ (eqb_same _ 0 (resize_need-raised n b h))
    ∙ ap (λ (p : Placed). Ok (as_granted p)) (resize-raised n b h)

pub resize_longer : (m : Memory) (slot : Slot) (s : plain.Slot) (k a : ℕ) (delta : ℤ) (t : Resizes delta (block_at a s.heap) s.heap k)
    → SpellsSlotIn m slot (lengthened k s) → s.budging ≡ slot.budge
    → resize_block a delta (heap_in m (span_of slot)) ≡ Ok (as_granted (resize_growing (new_size delta t.block) t.block s.heap))
resize_longer m slot s k a delta t w b =
    ap (resize_block a delta) (longer m slot s k w b) ∙ ap (λ o. resize_found delta o (raised k s.heap)) t.found
    ∙ resize_found-raised delta t.block s.heap k t.some t.short

pub resized_there : (o m l : Memory) (slot : Slot) (k a address : ℕ) (delta : ℤ) (x : ℕ)
    → (let s = slot_in o slot in Resizes delta (block_at a s.heap) s.heap k → a ≡ address - heap_start
    → SpellsSlotIn m slot (lengthened k s) → Gives (Ok (tt {0})) o.free k s
    → heap_calls.LeavesHeap m l (span_of slot) (resize_block a delta (heap_in m (span_of slot))) (Ok x) → OnlyArea o m slot.area.0
    → LeavesSlotIn o l slot (slot_resize o.free address delta s) (Ok (heap_start + x)))
resized_there o m l slot k a address delta x t e w g there only =
    let s = slot_in o slot in
    let p = resize_growing (new_size delta t.block) t.block s.heap in
    done_there o m l slot k p (slot_resize o.free address delta s) (resize_block a delta (heap_in m (span_of slot))) x w
    (slot_resize-growth o.free address delta s t.block (ap (λ i. block_at i s.heap) (sym e) ∙ t.found) t.some
    ∙ ap (λ i. after_growth o.free i s (with_heap p.heap s, heap_start + p.address)) (sym t.short)) g
    (end-resize_growing (new_size delta t.block) t.block s.heap ∙ ap (λ i. (raised i s.heap).end) (sym t.short))
    (resize_longer m slot s k a delta t w (budging_same o slot)) there only

pub resize_is_done : (o m l : Memory) (slot : Slot) (k a : ℕ) (delta : ℤ) {r : Result ℕ HeapRefusal}
    → (let s = slot_in o slot in Resizes delta (block_at a s.heap) s.heap k → SpellsSlotIn m slot (lengthened k s)
    → heap_calls.LeavesHeap m l (span_of slot) (resize_block a delta (heap_in m (span_of slot))) r → IsOk r)
resize_is_done o m l slot k a delta t w there =
    let s = slot_in o slot in
    is_done (resize_growing (new_size delta t.block) t.block s.heap) (resize_block a delta (heap_in m (span_of slot)))
    (resize_longer m slot s k a delta t w (budging_same o slot)) there

pub resize_call-growth : (free address a k : ℕ) (delta : ℤ) (s : plain.Slot) (t : Resizes delta (block_at a s.heap) s.heap k) → a ≡ address - heap_start
    → slot_resize free address delta s ≡ after_growth free k s (
      with_heap (resize_growing (new_size delta t.block) t.block s.heap).heap s,
      heap_start + (resize_growing (new_size delta t.block) t.block s.heap).address,
    )
resize_call-growth free address a k delta s t e =
    slot_resize-growth free address delta s t.block (ap (λ i. block_at i s.heap) (sym e) ∙ t.found) t.some
    ∙ ap (λ i. after_growth free i s (
      with_heap (resize_growing (new_size delta t.block) t.block s.heap).heap s,
      heap_start + (resize_growing (new_size delta t.block) t.block s.heap).address,
    )) (sym t.short)

end_for_most : (w : Way) (t : ℕ) (s : Split Segment) (h : Heap) → place_after s.before ≤ h.end → base h ≤ h.end → end_for w t s h - h.end ≤ t
end_for_most Stays t s h p l = omega arith
end_for_most Shrinks t s h p l = omega arith
end_for_most (GrowsIntoHole n rest) t s h p l = omega arith
end_for_most GrowsAtTop t s h p l = omega arith
end_for_most (MovesToHole hole) t s h p l = omega arith
end_for_most MovesToTop t s h p l = omega arith

cut_of : (a : ℕ) (h : Heap) (b : Split Segment) → block_at a h ≡ Some b → h.segments ≡ b.before ++ b.here ∷ b.after
cut_of a h b e = go (block_at a h) e (first_at-cuts size_of (is_block_at a) 16 h.segments)
  where
    go : (o : Option (Split Segment)) → o ≡ Some b → IfSome o (IsCut size_of (is_block_at a) 16 h.segments) → h.segments ≡ b.before ++ b.here ∷ b.after
    go None q c = absurd cc
    go (Some x) q c = c.whole ∙ ap (λ (y : Split Segment). y.before ++ y.here ∷ y.after) (let z : x ≡ b = cc in z)

-- ---- releases

pub slot_release-some : (address : ℕ) (s : plain.Slot) (b : Split Segment) → heap_block_at address s ≡ Some b
    → slot_release address s ≡ Ok (with_heap (released b s.heap) s)
unfolding slot_release ◌>>=◌ found_or
slot_release-some address s b e = rw e refl

pub slot_release-none : (address : ℕ) (s : plain.Slot) → heap_block_at address s ≡ None → slot_release address s ≡ Err NotABlock
unfolding slot_release ◌>>=◌ found_or
slot_release-none address s e = rw e refl

pub released_there : (m n : Memory) (slot : Slot) (address a : ℕ) {x : Unit {0}} → (let s = slot_in m slot in IsSlotIn m slot → a ≡ address - heap_start
    → heap_calls.LeavesHeap m n (span_of slot) (no_answer (released_at a (heap_in m (span_of slot)))) (Ok x)
    → LeavesSlotIn m n slot (no_answer (slot_release address s)) (Ok tt))
released_there m n slot address a w ea l =
    let s = slot_in m slot in
    let same = heap_same m slot in
    let b = released-found a (heap_in m (span_of slot)) l.answer in
    let found : block_at a s.heap ≡ Some b.0 = ap (block_at a) (sym same) ∙ b.1 in
    let call = slot_release-some address s b.0 (ap (λ k. block_at k s.heap) (sym ea) ∙ found) in
    let heap : release_block a (heap_in m (span_of slot)) ≡ released b.0 s.heap = ap (release_block a) same ∙ ap (λ o. release_found o s.heap) found in
    let spelt = subst (λ r. Spells (bytes n slot.area.0) heap_place (left_of (heap_in m (span_of slot)) (no_answer r)))
    (released_at-some a (heap_in m (span_of slot)) b.0 b.1) l.spells in
    leaves m n slot (no_answer (slot_release address s)) (with_heap (released b.0 s.heap) s) tt (ap no_answer call) (budging_same m slot)
    (SpellsSlot-with_heap (bytes m slot.area.0) (bytes n slot.area.0) s (released b.0 s.heap) w.spells
    (subst (λ (x : Heap). SameOutside (bytes m slot.area.0) (bytes n slot.area.0) heap_place (heap_place + x.end)) same l.only.outside)
    (subst (Spells (bytes n slot.area.0) heap_place) heap spelt) refl)
    (OnlyArea-from_Edited m n slot.area.0 _ _ l.only)

pub release_refused : (m n : Memory) (slot : Slot) (address a : ℕ) {refusal : HeapRefusal} →
    (let s = slot_in m slot in IsSlotIn m slot → a ≡ address - heap_start
    → heap_calls.LeavesHeap m n (span_of slot) (no_answer (released_at a (heap_in m (span_of slot)))) (Err refusal)
    → LeavesSlotIn m n slot (no_answer (slot_release address s)) (Err (refusal_of refusal)))
release_refused m n slot address a {refusal} w ea l =
    let s = slot_in m slot in
    let none = released-refused a (heap_in m (span_of slot)) l.answer in
    let call = slot_release-none address s (ap (λ k. block_at k s.heap) (sym ea) ∙ ap (block_at a) (sym (heap_same m slot)) ∙ none.0) in
    refuses m n slot (no_answer (slot_release address s)) (refusal_of refusal) (ap no_answer call ∙ ap (λ r. Err (refusal_of r)) (sym none.1)) l.err w

-- ---- the size of a block

pub size_refused : (o : Option ℕ) (f : HeapRefusal) → Err f ≡ ok_or o heap_refusal.NotABlock → Err (refusal_of f) ≡ ok_or o NotABlock
size_refused None f e = let q : f ≡ heap_refusal.NotABlock = cc in rw q refl
size_refused (Some n) f e = absurd cc

pub size_granted : (o : Option ℕ) (n : ℕ) → Ok n ≡ ok_or o heap_refusal.NotABlock → Ok n ≡ ok_or o NotABlock
size_granted None n e = absurd cc
size_granted (Some k) n e = let q : n ≡ k = cc in rw q refl

-- ---- a call that was refused

-- the need of a claim in the slot's heap
pub claim_refused : (free n : ℕ) (s : plain.Slot) (h : Heap) (f : HeapRefusal) → h ≡ s.heap → Err f ≡ claim_need n h → slot_claim free n s ≡ Err (refusal_of f)
claim_refused free n s h f e q = let r = need_err n f h q in slot_claim-zero free n s r.0 ∙ ap (λ i. Err (refusal_of i)) (sym r.1)

pub claim_needs : (n k : ℕ) (s : plain.Slot) (h : Heap) → h ≡ s.heap → Ok k ≡ claim_need n h → (n ≢ 0) × (k ≡ need n s.heap)
claim_needs n k s h e q = need_ok n k s.heap (q ∙ ap (claim_need n) e)

pub claim_stopped : (free n k : ℕ) (s : plain.Slot) (e : Refusal) → (n ≢ 0) × (k ≡ need n s.heap) → Gives (Err e) free k s → slot_claim free n s ≡ Err e
claim_stopped free n k s e w g =
    slot_claim-growth free n s w.0
    ∙ growth_err free (need n s.heap) s (with_heap (claim_growing n s.heap).heap s, heap_start + (claim_growing n s.heap).address) e
    (subst (λ i. Gives (Err e) free i s) w.1 g)

pub resize_stopped : (free address a k : ℕ) (delta : ℤ) (s : plain.Slot) (e : Refusal) (t : Resizes delta (block_at a s.heap) s.heap k)
    → a ≡ address - heap_start → Gives (Err e) free k s → slot_resize free address delta s ≡ Err e
resize_stopped free address a k delta s e t q g = resize_call-growth free address a k delta s t q ∙ growth_err free k s _ e g

-- ---- bounds

place_low : (h : Heap) (b : Split Segment) → h.segments ≡ b.before ++ b.here ∷ b.after → place_after b.before ≤ base h
place_low h b e = omega (arith, ap (total size_of) e, total-append size_of b.before (b.here ∷ b.after))

some_low : (h : Heap) (t : ℕ) (o : Option (Split Segment)) → IfSome o (IsCut size_of (is_hole_for t) 16 h.segments)
    → IfSome o (λ b. place_after b.before ≤ base h)
some_low h t None c = tt
some_low h t (Some b) c = place_low h b c.whole

hole_low : (t : ℕ) (h : Heap) → IfSome (hole_for t h.segments) (λ b. place_after b.before ≤ base h)
hole_low t h = some_low h t (hole_for t h.segments) (first_at-cuts size_of (is_hole_for t) 16 h.segments)

placed_in_low : (bs : List ℕ) (h : Heap) (o : Option (Split Segment)) → IfSome o (λ b. place_after b.before ≤ base h) → (placed_in bs h o).address ≤ base h + 4
placed_in_low bs h None l = omega arith
placed_in_low bs h (Some b) l = omega arith

pub claim_low : (n : ℕ) (h : Heap) → (claim_growing n h).address ≤ base h + 4
claim_low n h = placed_in_low (zeros (block_room n)) (raised (need n h) h) (hole_for (4 + length (zeros (block_room n))) h.segments)
    (hole_low (4 + length (zeros (block_room n))) h)

-- a way that moves the block moves it below the base, or to it
abbrev IsLow : Heap → Way → Type 0
IsLow h (MovesToHole hole) = place_after hole.before ≤ base h
IsLow h _ = Unit {0}

beyond_low : (h : Heap) (after : List Segment) (o : Option (Split Segment)) → IfSome o (λ b. place_after b.before ≤ base h) → IsLow h (way_beyond after o)
beyond_low h after (Some b) l = l
beyond_low h [] None l = tt
beyond_low h (x ∷ after) None l = tt

cond_low : (h : Heap) (t : Bool) (v w : Way) → IsLow h v → IsLow h w → IsLow h (cond t v w)
cond_low h true v w a b = a
cond_low h false v w a b = b

grow_low : (t : ℕ) (s : Split Segment) (after : List Segment) (h : Heap) → IsLow h (way_to_grow t s after h)
grow_low t s [] h = cond_low h _ GrowsAtTop _ tt (beyond_low h [] (hole_for t h.segments) (hole_low t h))
grow_low t s (Used bs ∷ after) h = beyond_low h (Used bs ∷ after) (hole_for t h.segments) (hole_low t h)
grow_low t s (Hole n ∷ after) h = cond_low h _ (GrowsIntoHole n after) _ tt (beyond_low h (Hole n ∷ after) (hole_for t h.segments) (hole_low t h))

way_low : (t : ℕ) (s : Split Segment) (h : Heap) → IsLow h (way_to t s h)
way_low t s h =
    cond_low h (eqb t (size_of s.here)) Stays (cond (ltb t (size_of s.here)) Shrinks (way_to_grow t s s.after h)) tt
    (cond_low h (ltb t (size_of s.here)) Shrinks (way_to_grow t s s.after h) tt (grow_low t s s.after h))

resized_low : (w : Way) (bs : List ℕ) (s : Split Segment) (h : Heap) → place_after s.before ≤ base h → IsLow h w → (resized_by w bs s h).address ≤ base h + 4
resized_low Stays bs s h l i = omega arith
resized_low Shrinks bs s h l i = omega arith
resized_low (GrowsIntoHole n rest) bs s h l i = omega arith
resized_low GrowsAtTop bs s h l i = omega arith
resized_low (MovesToHole hole) bs s h l i = omega arith
resized_low MovesToTop bs s h l i = omega arith

pub resize_low : (delta : ℤ) (a k : ℕ) (h : Heap) (t : Resizes delta (block_at a h) h k)
    → (resize_growing (new_size delta t.block) t.block h).address ≤ base h + 4
resize_low delta a k h t =
    let n = new_size delta t.block in
    resized_low (way_to (segment_size n) t.block h) (fitted (block_room n) (bytes_of t.block.here)) t.block (raised (resize_need n t.block h) h)
    (place_low h t.block (cut_of a h t.block t.found)) (way_low (segment_size n) t.block h)

pub address_low : (p : Placed) (own : Result (Heap × ℕ) HeapRefusal) (x : ℕ) → own ≡ Ok (as_granted p) → Ok x ≡ answer_of own → x ≡ p.address
address_low p own x o e = let same : ◌≡◌ {A = Result ℕ HeapRefusal} (Ok x) (Ok p.address) = e ∙ ap answer_of o in cc

used_low : (h : Heap) (b : Split Segment) → h.segments ≡ b.before ++ b.here ∷ b.after → size_of b.here ≤ base h
used_low h b e = omega (arith, ap (total size_of) e, total-append size_of b.before (b.here ∷ b.after))

bytes_low : (g : Segment) → length (bytes_of g) ≤ size_of g
bytes_low (Used bs) = omega arith
bytes_low (Hole n) = omega arith

moved_most : (n : ℕ) (delta : ℤ) → SFits w32 delta → moved n delta ≤ n + 2147483648
moved_most n (pos k) f = let l = f.sfits in omega arith
moved_most n (negsuc k) f = omega arith

pub resize_most : (delta : ℤ) (a k : ℕ) (h : Heap) → Resizes delta (block_at a h) h k → SFits w32 delta → base h ≤ h.end → k ≤ h.end + 2147483648 + 12
resize_most delta a k h t f l =
    let n = new_size delta t.block in
    let cut = cut_of a h t.block t.found in
    let m = end_for_most (way_to (segment_size n) t.block h) (segment_size n) t.block h (let p = place_low h t.block cut in omega arith) l in
    let b = moved_most (length (bytes_of t.block.here)) delta f in
    let c = bytes_low t.block.here in
    let u = used_low h t.block cut in
    omega (arith, t.short)

-- ---- calls that the heap as it is grants

spells_longer : (m : Memory) (slot : Slot) → IsSlotIn m slot → SpellsSlotIn m slot (lengthened 0 (slot_in m slot))
spells_longer m slot i = subst (λ h. SpellsSlotIn m slot (with_heap h (slot_in m slot))) (sym (raised-none (slot_in m slot).heap)) i.spells

module _ (m n : Memory) (slot : Slot) (span : Span) (at : span ≡ span_of slot) (i : IsSlotIn m slot) where
  abbrev s : plain.Slot
  s = slot_in m slot

  module _ (k address : ℕ) (l : heap_calls.LeavesHeap m n span (claim_block k (heap_in m span)) (Ok address)) where
    claim_there : heap_calls.LeavesHeap m n (span_of slot) (claim_block k (heap_in m (span_of slot))) (Ok address)
    claim_there = subst (λ t. heap_calls.LeavesHeap m n t (claim_block k (heap_in m t)) (Ok address)) at l

    claims_none : (k ≢ 0) × (0 ≡ need k s.heap)
    claims_none = claim_needs k 0 s (heap_in m (span_of slot)) (heap_same m slot) (claim-granted k address (heap_in m (span_of slot)) claim_there.answer)

    pub claimed_here : LeavesSlotIn m n slot (slot_claim m.free k s) (Ok (heap_start + address))
    claimed_here =
        claimed m m n slot 0 k address (spells_longer m slot i) claims_none.0 claims_none.1 (growth_none m.free 0 s refl) claim_there
        (OnlyArea-self m slot.area.0 i.opened)

    pub claimed_low : address ≤ base s.heap + 4
    claimed_low =
        let is = claim_longer m slot s 0 k (spells_longer m slot i) (budging_same m slot) claims_none.0 claims_none.1 in
        omega (arith, claim_low k s.heap, address_low (claim_growing k s.heap) _ address is claim_there.answer)

  module _ (a : ℕ) (delta : ℤ) (x : ℕ) (l : heap_calls.LeavesHeap m n span (resize_block a delta (heap_in m span)) (Ok x)) where
    resize_there : heap_calls.LeavesHeap m n (span_of slot) (resize_block a delta (heap_in m (span_of slot))) (Ok x)
    resize_there = subst (λ t. heap_calls.LeavesHeap m n t (resize_block a delta (heap_in m t)) (Ok x)) at l

    resizes_none : Resizes delta (block_at a s.heap) s.heap 0
    resizes_none =
        let h = heap_in m (span_of slot) in
        subst (λ (g : Heap). Resizes delta (block_at a g) g 0) (heap_same m slot)
        (need_found_ok delta (block_at a h) h 0 (resize-granted delta (block_at a h) h x resize_there.answer))

    pub resized_here : (address : ℕ) → a ≡ address - heap_start → LeavesSlotIn m n slot (slot_resize m.free address delta s) (Ok (heap_start + x))
    resized_here address e =
        resized_there m m n slot 0 a address delta x resizes_none e (spells_longer m slot i) (growth_none m.free 0 s refl) resize_there
        (OnlyArea-self m slot.area.0 i.opened)

    pub resized_low_here : x ≤ base s.heap + 4
    resized_low_here =
        let is = resize_longer m slot s 0 a delta resizes_none (spells_longer m slot i) (budging_same m slot) in
        omega (
          arith,
          resize_low delta a 0 s.heap resizes_none,
          address_low (resize_growing (new_size delta resizes_none.block) resizes_none.block s.heap) _ x is resize_there.answer,
        )

-- ---- the pages that a claim and a block of no bytes take

pages_taken : (s : plain.Slot) (k : ℕ)
    → pages_for (slot_length s + round_up page_size k + flex_weight 0) - slot_pages s ≡ pages_for k + pages_for (slot_length s + 8) - pages_for (slot_length s)
pages_taken s k = omega arith

pub take_zero : (n : ℕ) (s : plain.Slot) (h : Heap) (f : HeapRefusal) → h ≡ s.heap → Err f ≡ claim_need n h → slot_take_pages n s ≡ Err (refusal_of f)
unfolding slot_take_pages ◌>>=◌ refuse_if
take_zero n s h f e q = let r = need_err n f h q in rw (eqb_same n 0 r.0) (ap (λ i. Err (refusal_of i)) (sym r.1))

pub take_stuck : (n k : ℕ) (s : plain.Slot) → (n ≢ 0) × (k ≡ need n s.heap) → is_stuck k s ≡ true → slot_take_pages n s ≡ Err NoBudge
unfolding slot_take_pages ◌>>=◌ refuse_if
take_stuck n k s w e = let z = eqb_apart n 0 w.0 in let q : is_stuck (need n s.heap) s ≡ true = ap (λ i. is_stuck i s) (sym w.1) ∙ e in rw (z, q) refl

pub take_done : (n k : ℕ) (s : plain.Slot) → (n ≢ 0) × (k ≡ need n s.heap) → is_stuck k s ≡ false
    → slot_take_pages n s ≡ Ok (pages_for k + pages_for (slot_length s + 8) - pages_for (slot_length s))
unfolding slot_take_pages ◌>>=◌ refuse_if
take_done n k s w e =
    let z = eqb_apart n 0 w.0 in
    let q : is_stuck (need n s.heap) s ≡ false = ap (λ i. is_stuck i s) (sym w.1) ∙ e in
    rw (z, q) (ap (λ i. Ok i) (ap (λ i. pages_for (slot_length s + round_up page_size i + flex_weight 0) - slot_pages s) (sym w.1) ∙ pages_taken s k))
