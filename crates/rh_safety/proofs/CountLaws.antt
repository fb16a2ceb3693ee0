-- No document outgrows a count: it lies in one slot with its transfer's buffer.
use Rattle.rh_safety.proofs.Common.{◌≡◌, ℕ, ◌+◌, ◌-◌, ◌≤◌, Bool, true, false, List, [], ◌∷◌, length, Some, sym, ap, ◌∙◌, inl, arith, if◌then◌else◌, find}
use Rattle.rh_safety.proofs.Common.{◌==◌, total, Heap, first_place, Flex, weight, heap_start, Desk, Task, task_at, IsDesk, view, flex_map, Offered, Good}
use Rattle.rh_defs.specs.Heap.{IsHeap}
use Rattle.rh_defs.specs.Blocks.{block_bytes}
use Rattle.rh_defs.specs.Slot.{slot_length}
use Rattle.rh_defs.specs.Desk.{task_pages}
use Rattle.rh_defs.proofs.BlockLaws.{range_at}
use Rattle.rh_safety.specs.Polls.{CountsFit}
use Rattle.rh_safety.proofs.RecordLaws.{recorded}
use Rattle.rh_safety.proofs.SeenDesks.{fits}
use Rattle.rh_safety.proofs.SeenDocuments.{buffer_is}
use Rattle.rh_safety.specs.RawIds.{Gave}
use Rattle.rh_safety.proofs.Masks.{masked}
use Rattle.rh_safety.proofs.SeenLaws.{block_is}

-- one member is no larger than all
one_of_all : {A : Type 0} (size : A → ℕ) (test : A → Bool) (xs : List A) (x : A) → find test xs ≡ Some x →
    size x ≤ total size xs
one_of_all size test [] x q = absurd cc
one_of_all {A} size test (y ∷ xs) x q = go (test y) q (one_of_all size test xs x)
  where
    go : (b : Bool) → (if b then Some y else find test xs) ≡ Some x → (find test xs ≡ Some x → size x ≤ total size xs) →
        size x ≤ size y + total size xs
    go true e rest = let same : y ≡ x = cc in omega (arith, ap size same)
    go false e rest = omega (arith, rest e)

-- a flex block is no longer than all of them
flex_within : (blocks : List Flex) (k : ℕ) (bytes : List ℕ) → flex_map blocks k ≡ Some bytes →
    length bytes ≤ total weight blocks
flex_within [] k bytes q = absurd cc
flex_within (b ∷ blocks) k bytes q = go (b.anchor == k) q (flex_within blocks k bytes)
  where
    go : (is : Bool) → (if is then Some b.bytes else flex_map blocks k) ≡ Some bytes →
        (flex_map blocks k ≡ Some bytes → length bytes ≤ total weight blocks) →
        length bytes ≤ weight b + total weight blocks
    go true e rest = let same : b.bytes ≡ bytes = cc in omega (arith, ap (λ (v : List ℕ). length v) same)
    go false e rest = omega (arith, rest e)

-- a block of the C heap is no longer than the heap
heap_within : (h : Heap) (a : ℕ) (bytes : List ℕ) → IsHeap h → block_bytes a h ≡ Some bytes → length bytes ≤ h.end
heap_within h a bytes is q = let r = range_at a first_place h.segments bytes q in omega (arith, r.0, r.1, is.fits)

-- a slot has no more bytes than the largest pool
slot_within : (d : Desk) (h : ℕ) (t : Task) → IsDesk d → task_at h d ≡ Some t → slot_length t.slot ≤ 4194304
slot_within d h t is at =
    let one : task_pages t ≤ total task_pages d.tasks = one_of_all task_pages (λ (y : Task). y.handle == h) d.tasks t at in
    omega (arith, is.pages, is.pool, one)

pub counts_fit : {o : Offered} {e : ℕ → ℕ → Bool} (R : Gave) (d : Desk) → IsDesk d → Good o e (masked R (view d)) → CountsFit d
counts_fit R d is g h t f n at holds less =
    let r = recorded R d g h t at in
    let document = r.fetching f holds in
    let buffer = r.rooms f (inl holds) in
    let in_flex : length document.bytes ≤ total weight t.slot.blocks = flex_within t.slot.blocks f.anchor document.bytes
    (block_is t.slot f.anchor ∙ document.there) in
    let in_heap : length buffer.bytes ≤ t.slot.heap.end = heap_within t.slot.heap (f.buffer - heap_start) buffer.bytes
    ((fits d is).slots h t at).heap (sym (buffer_is f.buffer t.slot) ∙ buffer.there) in
    let all = slot_within d h t is at in
    let low : f.count + n ≤ 4194304 = omega (arith, document.size, buffer.size, less, in_flex, in_heap, all) in
    omega (arith, low)
