-- A slot with no block in a new page of zeros.
use Rattle.rh_slot.proofs.Common.{◌≡◌, ◌≢◌, ℕ, ◌*◌, ◌<◌, List, ◌++◌, length, replicate, refl, sym, ap, subst, ◌∙◌, arith, length-replicate, Option, Some}
use Rattle.rh_slot.proofs.Common.{None, IsNone, Result, Ok, Err, OnOk, IsOk, IsErr, ◌↔◌, PAGE, word, Memory, IsOpen, OnlyArea, Edited, bytes, ◌>>=◌}
use Rattle.rh_slot.proofs.Common.{refuse_if, Spells, SpellsSlot, heap_place, NoRoom, word_same, OnlyArea-both, in_below, ltb_no}
use Rattle.rh_defs.specs.Memory.{opened, grown}
use Rattle.rh_defs.specs.Chain.{outcome_of}
use Rattle.rh_defs.specs.Heap.{empty_heap}
use Rattle.rh_defs.specs.Slot.{new_slot, slot_begin}
use Rattle.rh_defs.proofs.BytesLaws.{word-zeros}
use Rattle.rh_defs.proofs.MemoryLaws.{bytes-none, bytes-opened, bytes-grown, area-opened, free-opened, pages-opened, loan-opened, IsOpen-opened, IsOpen-grown}
use Rattle.rh_defs.proofs.MemoryLaws.{OnlyArea-grown}

-- what a slot's begin answers
pub begin_refused : (free : ℕ) → free ≡ 0 → Err NoRoom ≡ outcome_of (slot_begin free)
unfolding slot_begin ◌>>=◌ refuse_if
begin_refused free e = rw e refl

pub begin_done : (free : ℕ) → free ≢ 0 → Ok tt ≡ outcome_of (slot_begin free)
unfolding slot_begin ◌>>=◌ refuse_if
begin_done free ne = rw (ltb_no free 1 (omega arith)) refl

-- a page was free, so the area was grown
pub page_grown : {A E : Type 0} (m n : Memory) (id : ℕ) (r : Result A E) → OnOk r (n ≡ grown m id 1) → (IsErr r ↔ (m.free < 1)) → m.free ≢ 0 → n ≡ grown m id 1
page_grown m n id (Ok x) e h ne = e
page_grown m n id (Err x) e h ne = absurd (let l = h.0 refl in omega arith)

-- a call that isn't refused is done
pub is_granted : {A E : Type 0} (r : Result A E) → (IsErr r → ⊥) → IsOk r
is_granted (Ok x) n = refl
is_granted (Err x) n = absurd (n refl)

pub page_granted : {A E : Type 0} (m k : Memory) (id : ℕ) (r : Result A E) → m.free ≢ 0 → k ≡ opened m id → (IsErr r ↔ (k.free < 1)) → IsOk r
page_granted m k id r ne e h =
    is_granted r (λ z. let l = h.0 z in let free : k.free ≡ m.free = ap (λ (x : Memory). x.free) e ∙ free-opened m id in ne (omega arith))

none_is : (o : Option (List ℕ)) → IsNone o → o ≡ None
none_is None h = refl
none_is (Some x) h = absurd cc

page_of_zeros : (m : Memory) (id : ℕ) → bytes (grown (opened m id) id 1) id ≡ replicate PAGE 0
page_of_zeros m id = bytes-grown (opened m id) id 1 ∙ ap (λ (l : List ℕ). l ++ replicate PAGE 0) (bytes-opened m id)

-- the area after it was opened and grown by a page
pub record Opened (m n : Memory) (id : ℕ) : Type 0 where
  pub opened : IsOpen n id
  pub bytes_are : bytes n id ≡ replicate PAGE 0
  pub len : length (bytes n id) ≡ PAGE
  pub only : OnlyArea m n id

pub opened_page : {A E : Type 0} (m k n : Memory) (id : ℕ) (r : Result A E) → m.free ≢ 0 → IsNone (m.area id) × (k ≡ opened m id) → OnOk r (n ≡ grown k id 1)
    → (IsErr r ↔ (k.free < 1)) → Opened m n id
opened_page m k n id r ne o e h =
    let free : k.free ≡ m.free = ap (λ (x : Memory). x.free) o.1 ∙ free-opened m id in
    let is : n ≡ grown (opened m id) id 1 = page_grown k n id r e h (λ z. ne (sym free ∙ z)) ∙ ap (λ x. grown x id 1) o.1 in
    let bs : bytes n id ≡ replicate PAGE 0 = ap (λ x. bytes x id) is ∙ page_of_zeros m id in
    let first : OnlyArea m (opened m id) id = record {
      opened = IsOpen-opened m id;
      others = λ j q. area-opened m id j q;
      ledger = omega (arith, free-opened m id, ap length (bytes-opened m id), ap length (bytes-none m id (none_is (m.area id) o.0)));
      pages = pages-opened m id;
      loan = loan-opened m id;
    } in
    record {
      opened = subst (λ x. IsOpen x id) (sym is) (IsOpen-grown (opened m id) id 1);
      bytes_are = bs;
      len = ap length bs ∙ length-replicate {A = ℕ} PAGE 0;
      only = subst (λ x. OnlyArea m x id) (sym is) (OnlyArea-both m (opened m id) (grown (opened m id) id 1) id first
          (OnlyArea-grown (opened m id) id 1 (omega (arith, free-opened m id))));
    }

-- with an empty heap behind the anchor words it spells a slot with no block
pub spells_new : (m n k : Memory) (id : ℕ) → Opened m n id → Edited n k id heap_place PAGE → Spells (bytes k id) heap_place (empty_heap 3840)
    → SpellsSlot (bytes k id) new_slot
spells_new m n k id o e s =
    let len = e.outside.len in
    let l = o.len in
    record {
      words = record {
        heap = s;
        within = omega arith;
        lie = tt;
        anchored = tt;
        none = λ j u v. word_same (bytes n id) (bytes k id) (4 * j) (in_below e.outside (omega arith)) ∙ ap (λ b. word b (4 * j)) o.bytes_are
            ∙ word-zeros PAGE (4 * j) (omega arith);
        anchors = tt;
      };
      pages = omega arith;
    }
