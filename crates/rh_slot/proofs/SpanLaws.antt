-- The C heap of a slot as a span of its area.
use Rattle.rh_slot.proofs.Common.{◌≡◌, ℕ, ◌-◌, ◌≤◌, Bool, true, false, leb, refl, sym, ap, subst, ◌∙◌, ◌&&◌, ◌||◌, is_some, heap_start, Heap, Memory, IsOpen}
use Rattle.rh_slot.proofs.Common.{bytes, SpellsSlot, heap_place, slot_of, Span, heap_in, IsSlotIn, SpellsSlotIn, slot_in}
use Rattle.rh_defs.specs.Heap.{block_around}
use Rattle.rh_defs.proofs.HeapLists.{leb_yes}
use Rattle.rh_defs.specs.Slot as plain
use Rattle.rh_defs.proofs.SlotImageLaws.{slot_of-SlotWords, slot_of-SpellsSlot, SpellsSlot-budging}
use Rattle.rh_heap.specs.HeapSpans.{IsSpan}
use Rattle.rh_slot.specs.declared.slot.Slot.{Slot}

abbrev pub span_of : Slot → Span
span_of slot = record { area = slot.area; at = heap_place }

-- the heap in the span is the slot's
pub heap_same : (m : Memory) (slot : Slot) → heap_in m (span_of slot) ≡ (slot_in m slot).heap
unfolding slot_of
heap_same m slot = refl

pub budging_same : (m : Memory) (slot : Slot) → (slot_in m slot).budging ≡ slot.budge
unfolding slot_of
budging_same m slot = refl

pub is_span : (m : Memory) (slot : Slot) → IsSlotIn m slot → IsSpan m (span_of slot)
unfolding slot_of
is_span m slot s = record { opened = s.opened; spells = s.spells.words.heap }

-- the same from a call's requirement of the span by name
pub is_span_at : (m : Memory) (slot : Slot) (span : Span) → span ≡ span_of slot → IsSlotIn m slot → IsSpan m span
is_span_at m slot span e s = subst (IsSpan m) (sym e) (is_span m slot s)

pub heap_at : (m : Memory) (slot : Slot) (span : Span) → span ≡ span_of slot → heap_in m span ≡ (slot_in m slot).heap
heap_at m slot span e = ap (heap_in m) e ∙ heap_same m slot

-- the slot in an area is the one that its bytes spell
pub slot_now : (m : Memory) (slot : Slot) (s : plain.Slot) → SpellsSlotIn m slot s → s.budging ≡ slot.budge → slot_in m slot ≡ s
slot_now m slot s k e = ap (λ t. slot_of t (bytes m slot.area.0)) (sym e) ∙ slot_of-SpellsSlot (bytes m slot.area.0) s k

-- an open area whose bytes spell a slot is one, budging on or off
pub is_slot : (m : Memory) (slot : Slot) (s : plain.Slot) → IsOpen m slot.area.0 → SpellsSlotIn m slot s → IsSlotIn m slot
is_slot m slot s o k = record {
  opened = o;
  spells = subst (SpellsSlot (bytes m slot.area.0)) (sym (slot_of-SlotWords slot.budge (bytes m slot.area.0) s k.words))
      (SpellsSlot-budging slot.budge (bytes m slot.area.0) s k);
}

-- bytes in no flex block are in a block of the C heap or in none
pub inside_heap : (x n : ℕ) (s : plain.Slot) (h : Heap) (r : Bool) → is_some (plain.flex_around x n s) ≡ false → heap_start ≤ x → h ≡ s.heap
    → r ≡ is_some (block_around (x - heap_start) n h) → r ≡ plain.holds x n s
inside_heap x n s h r f l e q =
    let yes : leb heap_start x ≡ true = leb_yes heap_start x l in
    q ∙ ap (λ i. is_some (block_around (x - heap_start) n i)) e
    ∙ sym (ap (λ t. t || (leb heap_start x && is_some (block_around (x - heap_start) n s.heap))) f
    ∙ ap (λ t. t && is_some (block_around (x - heap_start) n s.heap)) yes)
