-- What a call leaves of a heap in a span.
use Rattle.std.specs.Prelude.{◌≡◌, Result, OnErr}
use Rattle.rh_defs.specs.Memory.{Memory}
use Rattle.rh_defs.specs.Chain.{answer_of, left_of}
use Rattle.rh_defs.specs.Heap.{Heap}
use Rattle.rh_defs.specs.declared.heap.HeapRefusal.{HeapRefusal}
use Rattle.rh_heap.specs.declared.span.Span.{Span}
use Rattle.rh_heap.specs.HeapSpans.{IsSpan, SpellsHeapIn, OnlySpan, heap_in}

-- A call on the span's heap is granted this: it answers so, the span's bytes spell the heap that is granted, nothing else has changed, and where it is refused nothing at all.
pub record LeavesHeap {A : Type 0} (m n : Memory) (span : Span) (granted : Result (Heap × A) HeapRefusal) (result : Result A HeapRefusal) : Type 0 where
  pub answer : result ≡ answer_of granted
  pub heap : heap_in n span ≡ left_of (heap_in m span) granted
  pub spells : SpellsHeapIn n span (left_of (heap_in m span) granted)
  pub still : IsSpan n span
  pub only : OnlySpan m n span
  pub err : OnErr result (n ≡ m)
