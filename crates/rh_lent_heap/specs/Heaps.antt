-- Heaps in lent bytes, and what a call on one leaves.
use Rattle.std.specs.Prelude.{◌≡◌, ℕ, ◌≤◌, List, length, Result, OnErr}
use Rattle.rh_defs.specs.Bytes.{SameOutside}
use Rattle.rh_defs.specs.Chain.{answer_of, left_of}
use Rattle.rh_defs.specs.Heap.{Heap}
use Rattle.rh_defs.specs.HeapImage.{Spells, heap_of}
use Rattle.rh_defs.specs.declared.heap.HeapRefusal.{HeapRefusal}
use Rattle.rh_store.specs.Limits.{area_limit}

-- the bytes spell a heap from their first one on, and are at most 1 GiB
pub record IsHeapBytes (b : List ℕ) : Type 0 where
  pub few : length b ≤ area_limit
  pub spells : Spells b 0 (heap_of b 0)

-- A call on the heap of bytes b is granted this: it answers so, the bytes c then spell the heap that is granted, those
-- behind the old heap's end have stayed, and where it is refused all of them have.
pub record LeavesBytes {A : Type 0} (b c : List ℕ) (granted : Result (Heap × A) HeapRefusal)
    (result : Result A HeapRefusal) : Type 0 where
  pub answer : result ≡ answer_of granted
  pub heap : heap_of c 0 ≡ left_of (heap_of b 0) granted
  pub bytes : IsHeapBytes c
  pub outside : SameOutside b c 0 (heap_of b 0).end
  pub err : OnErr result (c ≡ b)
