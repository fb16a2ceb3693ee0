-- What a call on a slot in lent bytes leaves, from what it leaves of their memory.
use Rattle.rh_lent_slot.proofs.Common.{◌≡◌, ℕ, ◌*◌, ◌/◌, ◌≤◌, Bool, true, List, length, take, replicate, refl, sym, ap, subst, ◌∙◌, arith, length-replicate}
use Rattle.rh_lent_slot.proofs.Common.{length-take-le, ℤ, Ok, Err, OnErr, PAGE, with_part, Memory, area_set, bytes, new_slot, first_pages, pages_memory_over}
use Rattle.rh_lent_slot.proofs.Common.{lent_memory_in}
use Rattle.rh_lent_slot.proofs.Common.{lent_pages_memory, IsSlotBytes, LeavesSlot, lent_slot_bytes, lent_slot_in}
use Rattle.rh_defs.specs.declared.sizes.TheConstants.{C_HEAP_LENGTH}
use Rattle.rh_defs.specs.Chain.{Granted, answer_of, left_of}
use Rattle.rh_defs.specs.Heap.{empty_heap}
use Rattle.rh_defs.specs.HeapImage.{Spells}
use Rattle.rh_defs.specs.Memory.{IsOpen, Edited}
use Rattle.rh_defs.specs.Slot as plain
use Rattle.rh_defs.specs.SlotImage.{SpellsSlot, heap_place}
use Rattle.rh_defs.specs.declared.refusal.Refusal.{Refusal}
use Rattle.rh_defs.proofs.MemoryLaws.{OnlyArea-self}
use Rattle.rh_defs.proofs.SlotImageLaws.{slot_of-SlotWords, SpellsSlot-budging}
use Rattle.rh_lent_slot.specs.LentPages.{pages_behind}
use Rattle.rh_lent_slot.specs.declared.pages_mut.LentPagesMut.{LentPagesMut}
use Rattle.rh_lent_slot.specs.declared.slot.LentSlot.{LentSlot}
use Rattle.rh_lent_slot.proofs.Over.{over-open, take-zeros}
use Rattle.rh_slot.specs.SlotArea.{IsSlotIn}
use Rattle.rh_slot.specs.SlotCalls.{LeavesSlotIn}
use Rattle.rh_slot.specs.declared.slot.Slot.{Slot}
use Rattle.rh_slot.proofs.SpanLaws.{slot_now}
use Rattle.rh_slot.proofs.StartLaws.{Opened, spells_new}

-- the slot in the area of lent pages
abbrev pub lent : Bool → Slot
lent budge = record { area = record { 0 = 0 }; budge = budge }

-- bytes of a slot are the slot of their memory
pub is_slot : (b : List ℕ) (s : LentSlot) (l : ℕ) → IsSlotBytes b s → IsSlotIn (lent_memory_in b s.pages l) (lent s.budge)
unfolding pages_memory_over area_set bytes
is_slot b s l h = record {
  opened = over-open (first_pages s.pages b) (pages_behind s.pages b) (length b / PAGE) l;
  spells = h.spells;
}

-- a refused call leaves the slot's pages
same_err : {A : Type 0} (b : List ℕ) (n l : ℕ) (store : LentPagesMut) (result : Granted A) → PAGE * n ≤ length b
    → OnErr result (lent_pages_memory store ≡ lent_memory_in b n l)
    → OnErr result ((store.pages ≡ n) × (first_pages store.pages store.bytes.now ≡ first_pages n b))
unfolding lent_pages_memory pages_memory_over area_set bytes
same_err b n l store (Ok x) w e = tt
same_err b n l store (Err x) w e =
    let is : first_pages store.pages store.bytes.now ≡ first_pages n b = ap (λ (m : Memory). bytes m 0) e in
    let old = length-take-le (PAGE * n) b w in
    let new = length-take-le (PAGE * store.pages) store.bytes.now store.within in
    let len = ap length is in
    (omega arith, is)

-- what is left of the memory is left of the bytes, whatever is counted
pub leaves_slot : {A : Type 0} (b : List ℕ) (s : LentSlot) (l : ℕ) (store : LentPagesMut) (n : ℕ) (granted : Granted (plain.Slot × A))
    (result : Granted A) → IsSlotBytes b s → LeavesSlotIn (lent_memory_in b s.pages l) (lent_pages_memory store) (lent s.budge) granted result
    → LeavesSlot b store.bytes.now s (record { pages = store.pages; budge = s.budge; slides = n }) granted result
unfolding lent_pages_memory pages_memory_over area_set bytes
leaves_slot b s l store n granted result h e = record {
  answer = e.answer;
  slot = e.slot;
  bytes = record { few = store.few; within = store.within; spells = e.still.spells };
  budge = refl;
  err = same_err b s.pages l store result h.within e.err;
}

-- the same of a call with a signed argument, from what is said of the number that it is passed as
pub leaves_signed : {A : Type 0} (b : List ℕ) (s : LentSlot) (l : ℕ) (store : LentPagesMut) (n : ℕ)
    (granted : ℤ → Granted (plain.Slot × A)) (result : Granted A) (d e : ℤ) → d ≡ e → IsSlotBytes b s
    → LeavesSlotIn (lent_memory_in b s.pages l) (lent_pages_memory store) (lent s.budge) (granted d) result
    → LeavesSlot b store.bytes.now s (record { pages = store.pages; budge = s.budge; slides = n }) (granted e) result
leaves_signed b s l store n granted result d e is h k =
    leaves_slot b s l store n (granted e) result h
    (subst (λ x. LeavesSlotIn (lent_memory_in b s.pages l) (lent_pages_memory store) (lent s.budge) (granted x) result) is k)

-- a call that is refused before it does anything
pub refused_slot : {A : Type 0} (b : List ℕ) (s : LentSlot) (granted : Granted (plain.Slot × A)) (refusal : Refusal)
    → IsSlotBytes b s → granted ≡ Err refusal → LeavesSlot {A = A} b b s s granted (Err refusal)
refused_slot {A} b s granted refusal h e = record {
  answer = sym (ap answer_of e);
  slot = sym (ap (left_of (lent_slot_in b s)) e);
  bytes = h;
  budge = refl;
  err = (refl, refl);
}

-- ---- how a slot begins

-- the first page after zeros were written over it
pub page_of_zeros : (b c : List ℕ) → PAGE ≤ length b → c ≡ with_part b 0 (replicate PAGE 0) → first_pages 1 c ≡ replicate PAGE 0
page_of_zeros b c h e = ap (take PAGE) e ∙ take-zeros 0 PAGE b h

-- an empty heap behind the anchor words of a page of zeros
pub begun : (b : List ℕ) (l : ℕ) (store : LentPagesMut) → first_pages 1 b ≡ replicate PAGE 0
    → Edited (lent_memory_in b 1 l) (lent_pages_memory store) 0 heap_place PAGE → Spells (bytes (lent_pages_memory store) 0) heap_place
    (empty_heap C_HEAP_LENGTH)
    → SpellsSlot (first_pages store.pages store.bytes.now) new_slot
unfolding lent_pages_memory pages_memory_over area_set bytes
begun b l store z e s =
    let m = lent_memory_in b 1 l in
    let is : IsOpen m 0 = over-open (first_pages 1 b) (pages_behind 1 b) (length b / PAGE) l in
    let page : Opened m m 0 = record {
      opened = is;
      bytes_are = z;
      len = ap length z ∙ length-replicate {A = ℕ} PAGE 0;
      only = OnlyArea-self m 0 is;
    } in
    spells_new m m (lent_pages_memory store) 0 page e s

-- so the bytes have a new slot
pub begun_slot : (store : LentPagesMut) → SpellsSlot (first_pages store.pages store.bytes.now) new_slot
    → lent_slot_in store.bytes.now (record { pages = store.pages; budge = true; slides = 0 }) ≡ new_slot
unfolding lent_pages_memory pages_memory_over area_set bytes
begun_slot store s = slot_now (lent_pages_memory store) (lent true) new_slot s refl

pub begun_bytes : (store : LentPagesMut) → SpellsSlot (first_pages store.pages store.bytes.now) new_slot
    → IsSlotBytes store.bytes.now (record { pages = store.pages; budge = true; slides = 0 })
begun_bytes store s = record {
  few = store.few;
  within = store.within;
  spells = subst (SpellsSlot (first_pages store.pages store.bytes.now)) (sym (begun_slot store s)) s;
}

-- budging on or off, the bytes are a slot's
pub budged : (b : List ℕ) (s : LentSlot) (on : Bool) → IsSlotBytes b s → IsSlotBytes b (record { pages = s.pages; budge = on; slides = s.slides })
budged b s on h = record {
  few = h.few;
  within = h.within;
  spells = subst (SpellsSlot (lent_slot_bytes b s)) (sym (slot_of-SlotWords on (lent_slot_bytes b s) (lent_slot_in b s) h.spells.words))
      (SpellsSlot-budging on (lent_slot_bytes b s) (lent_slot_in b s) h.spells);
}
