-- Bytes of the store are copied into a slot's block.
use Rattle.rh_slot.proofs.Common.{◌≡◌, ℕ, ◌+◌, ◌≤◌, List, length, refl, sym, ap, subst, ◌∙◌, arith, Ok, Option, IfSome, with_part, Granted}
use Rattle.rh_slot.proofs.Common.{no_answer}
use Rattle.rh_slot.proofs.Common.{Memory, bytes, Split, Flex, slot_put, SpellsSlot, length-put, bytes-with_bytes, OnlyArea-from_Edited, heap_in, Span}
use Rattle.rh_slot.proofs.Common.{IsSlotIn, slot_in, LeavesSlotIn, FoundAt}
use Rattle.rh_defs.specs.Blocks.{SameShape}
use Rattle.rh_defs.specs.Memory.{with_bytes}
use Rattle.rh_defs.specs.Slot as plain
use Rattle.rh_heap.proofs.MapShapes.{rows_on}
use Rattle.rh_store.specs.Starts.{AreRowsOf}
use Rattle.rh_slot.specs.declared.slot.Slot.{Slot}
use Rattle.rh_slot.proofs.AreaLaws.{Edited-put}
use Rattle.rh_slot.proofs.EditLaws.{put_words, put_at}
use Rattle.rh_slot.proofs.FlexLaws.{paged}
use Rattle.rh_slot.proofs.LeaveLaws.{leaves}
use Rattle.rh_slot.proofs.SpanLaws.{span_of, heap_at, budging_same}

-- bytes are put into a slot's area, where they spell the slot that is granted
pub copied : (m n : Memory) (slot : Slot) (granted : Granted (plain.Slot × Unit {0})) (s : plain.Slot) (at : ℕ) (xs : List ℕ) → granted ≡ Ok (s, tt)
    → s.budging ≡ (slot_in m slot).budging
    → n ≡ with_bytes m slot.area.0 (with_part (bytes m slot.area.0) at xs) → SpellsSlot (with_part (bytes m slot.area.0) at xs) s
    → LeavesSlotIn m n slot granted (Ok tt)
copied m n slot granted s at xs e b ne k =
    let id = slot.area.0 in
    let now : bytes n id ≡ with_part (bytes m id) at xs = ap (λ (r : Memory). bytes r id) ne ∙ bytes-with_bytes m id (with_part (bytes m id) at xs) in
    leaves m n slot granted s tt e (b ∙ budging_same m slot) (subst (λ c. SpellsSlot c s) (sym now) k)
    (OnlyArea-from_Edited m n id at (at + length xs) (Edited-put m n id at (at + length xs) xs ne (omega arith)))

-- bytes are put into an anchor's block
pub put_copied : (m n : Memory) (slot : Slot) (k offset place size : ℕ) (cut : Split Flex) (xs : List ℕ) → IsSlotIn m slot
    → FoundAt k (slot_in m slot) place size cut → offset + length xs ≤ size
    → n ≡ with_bytes m slot.area.0 (with_part (bytes m slot.area.0) (place + 8 + offset) xs)
    → LeavesSlotIn m n slot (no_answer (slot_put k offset xs (slot_in m slot))) (Ok tt)
put_copied m n slot k offset place size cut xs s f h e =
    let b = bytes m slot.area.0 in
    let w = put_words b (with_part b (place + 8 + offset) xs) (slot_in m slot) k place size offset cut xs s.spells.words f h refl in
    copied m n slot _ _ (place + 8 + offset) xs (ap no_answer (put_at k offset xs (slot_in m slot) place size cut f h)) refl e
    (paged _ _ _ w.0 w.1 (length-put b (place + 8 + offset) xs ∙ s.spells.pages))

-- ---- the map that is kept beside the slot

-- what was written in the slot left its C heap the shape
pub map_after : {A : Type 0} (words : A → List ℕ) (split : A → ℕ) (m n : Memory) (slot : Slot) (s : plain.Slot) (before behind : Span)
    → slot_in n slot ≡ s → SameShape s.heap (slot_in m slot).heap → before ≡ span_of slot → behind ≡ span_of slot
    → (o : Option A) → IfSome o (λ x. AreRowsOf (words x) (split x) (heap_in m before)) → IfSome o (λ x. AreRowsOf (words x) (split x) (heap_in n behind))
map_after words split m n slot s before behind is shape e f =
    rows_on words split (heap_in m before) (heap_in n behind) (rw (heap_at n slot behind f, is, heap_at m slot before e) shape)
