-- What a call leaves, by what it is granted.
use Rattle.rh_heap.proofs.Common.{◌≡◌, sym, ap, subst, ◌∙◌, Result, Ok, Err, Memory, left_of, Heap, HeapRefusal, Span, IsSpan, SpellsHeapIn, heap_in}
use Rattle.rh_defs.specs.Chain.{answer_of}
use Rattle.rh_defs.proofs.MemoryLaws.{Edited-self}
use Rattle.rh_heap.specs.HeapSpans.{OnlySpan}
use Rattle.rh_heap.specs.HeapCalls.{LeavesHeap}
use Rattle.rh_heap.proofs.SpanLaws.{heap_now, is_span}

module _ {A : Type 0} (m n : Memory) (span : Span) (granted : Result (Heap × A) HeapRefusal) where
  -- it is done
  pub leaves : (h : Heap) (answer : A) → granted ≡ Ok (h, answer) → SpellsHeapIn n span h → OnlySpan m n span → LeavesHeap m n span granted (Ok answer)
  leaves h answer e s only = record {
    answer = sym (ap answer_of e);
    heap = heap_now n span h s ∙ sym (ap (left_of (heap_in m span)) e);
    spells = subst (λ g. SpellsHeapIn n span (left_of (heap_in m span) g)) (sym e) s;
    still = is_span n span h only.opened s;
    only = only;
    err = tt;
  }

  -- it is refused, and nothing has changed
  pub refuses : (refusal : HeapRefusal) → granted ≡ Err refusal → n ≡ m → IsSpan m span → LeavesHeap m n span granted (Err refusal)
  refuses refusal e same s =
      let now = subst (λ i. IsSpan i span) (sym same) s in
      let old : heap_in n span ≡ heap_in m span = ap (λ i. heap_in i span) same in
      record {
        answer = sym (ap answer_of e);
        heap = old ∙ sym (ap (left_of (heap_in m span)) e);
        spells = subst (λ g. SpellsHeapIn n span (left_of (heap_in m span) g)) (sym e) (subst (SpellsHeapIn n span) old now.spells);
        still = now;
        only = subst (λ i. OnlySpan m i span) (sym same) (Edited-self m span.area.0 _ _ s.opened);
        err = same;
      }
