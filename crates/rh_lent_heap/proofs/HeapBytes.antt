-- What a call on lent bytes leaves, from what it leaves of their memory.
use Rattle.rh_lent_heap.proofs.Common.{◌≡◌, ℕ, ◌+◌, ◌≤◌, List, length, sym, ap, subst, arith, Result, Ok, Err, OnErr, area_set, bytes, heap_of, LeavesHeap}
use Rattle.rh_lent_heap.proofs.Common.{memory_over, LeavesBytes}
use Rattle.rh_defs.specs.Bytes.{SameOutside}
use Rattle.rh_defs.specs.Memory.{Memory}
use Rattle.rh_defs.specs.Heap.{Heap}
use Rattle.rh_defs.specs.HeapImage.{Spells}
use Rattle.rh_defs.specs.declared.heap.HeapRefusal.{HeapRefusal}
use Rattle.rh_heap.specs.HeapSpans.{IsSpan}
use Rattle.rh_heap.specs.declared.span.Span.{Span}
use Rattle.rh_lent_heap.specs.Heaps.{IsHeapBytes}
use Rattle.rh_lent_heap.proofs.Over.{over-open}
use Rattle.rh_store.specs.Limits.{area_limit}

-- the span of all lent bytes
abbrev pub whole : Span
whole = record { area = record { 0 = 0 }; at = 0 }

pub is_span : (b : List ℕ) (l : ℕ) → IsHeapBytes b → IsSpan (memory_over b l) whole
unfolding memory_over area_set bytes
is_span b l h = record { opened = over-open b l; spells = h.spells }

same_err : {A : Type 0} (b c : List ℕ) (l k : ℕ) (result : Result A HeapRefusal)
    → OnErr result (memory_over c k ≡ memory_over b l) → OnErr result (c ≡ b)
unfolding memory_over area_set bytes
same_err b c l k (Ok x) e = tt
same_err b c l k (Err x) e = ap (λ (m : Memory). bytes m 0) e

-- bytes that spell a heap again, and are as many
pub heap_bytes : (b c : List ℕ) (n : ℕ) → length b ≤ area_limit → SameOutside b c 0 n → Spells c 0 (heap_of c 0)
    → IsHeapBytes c
heap_bytes b c n h o s = record { few = subst (λ k. k ≤ area_limit) (sym o.len) h; spells = s }

pub leaves_bytes : {A : Type 0} (b c : List ℕ) (l k : ℕ) (granted : Result (Heap × A) HeapRefusal)
    (result : Result A HeapRefusal) → IsHeapBytes b → LeavesHeap (memory_over b l) (memory_over c k) whole granted result
    → LeavesBytes b c granted result
unfolding memory_over area_set bytes
leaves_bytes b c l k granted result h e =
    let o = e.only.outside in
    let start : 0 + (heap_of b 0).end ≡ (heap_of b 0).end = omega arith in
    record {
      answer = e.answer;
      heap = e.heap;
      bytes = heap_bytes b c _ h.few o e.still.spells;
      outside = subst (λ n. SameOutside b c 0 n) start o;
      err = same_err b c l k result e.err;
    }
