-- What a call leaves of the bytes that it was lent, and what it leaves of those that are no heap's.
use Rattle.std.specs.Prelude.{◌≡◌, ◌≢◌, ℕ, ◌≤◌, ◌^◌, ℤ, pos, negsuc, List, length, Result, Ok, ok_or}
use Rattle.rh_defs.specs.Chain.{no_answer, answer_of}
use Rattle.rh_defs.specs.Heap.{Heap, extend_by, block_size}
use Rattle.rh_defs.specs.HeapImage.{heap_of}
use Rattle.rh_defs.specs.declared.heap.HeapRefusal.{HeapRefusal}
use Rattle.rh_defs.specs.declared.heap.HeapRefusal.TheVariants.{NotABlock}
use Rattle.rh_lent_heap.specs.Heaps.{IsHeapBytes, LeavesBytes}
use Rattle.rh_store.specs.Limits.{area_limit}
use Rattle.vf_heap.specs.HeapStatus.{image_status}

-- a call on the heap of bytes b that is granted this leaves bytes c
abbrev pub LeavesLentHeap : {A : Type 0} → List ℕ → List ℕ → Result (Heap × A) HeapRefusal → Type 0
LeavesLentHeap b c granted = LeavesBytes b c granted (answer_of granted)

-- the bytes are a heap's, or more than any heap has
abbrev pub IsLentHeap : List ℕ → Type 0
IsLentHeap b = length b ≤ area_limit → IsHeapBytes b

-- the heap of bytes b has its end moved by delta in bytes c, and nothing else was changed
abbrev pub Extends : List ℕ → List ℕ → ℤ → Type 0
Extends b c delta = LeavesBytes b c (no_answer (extend_by delta (heap_of b 0))) (Ok tt)

-- the number of bytes of the block at an address
abbrev pub size_at : ℕ → Heap → Result ℕ HeapRefusal
size_at address h = ok_or (block_size address h) NotABlock

-- bytes b that are no heap's stay, and why they are none is the status
abbrev pub RefusesImage : List ℕ → List ℕ → ℕ → Type 0
RefusesImage b c status = image_status b ≢ 0 → (status ≡ image_status b) × (c ≡ b)

-- an amount for which 32 bits with a sign have no room: 2 GiB or more up, or more than 2 GiB down
abbrev pub IsFar : ℤ → Type 0
IsFar (pos k) = 2 ^ 31 ≤ k
IsFar (negsuc k) = 2 ^ 31 ≤ k
