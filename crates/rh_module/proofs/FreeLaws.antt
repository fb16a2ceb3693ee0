-- A free, by what the heap's release answers.
use Rattle.rh_module.proofs.Common.{◌≡◌, ℕ, length, sym, ap, subst, ◌∙◌, Ok, Err, Memory, OnlyArea, bytes, answer_of, left_of, no_answer, refusal_of}
use Rattle.rh_module.proofs.Common.{HeapRefusal, OnlyArea-from_Edited, Span, Module, IsModule, module_heap_in, LeavesModule}
use Rattle.rh_defs.specs.Heap.{block_at, release_block, released_at}
use Rattle.rh_defs.specs.Module.{module_free}
use Rattle.rh_defs.proofs.HeapCalls.{released_at-some, released-found, released-refused}
use Rattle.rh_defs.proofs.ModuleLaws.{release_found-end, module_free-none, module_free-some}
use Rattle.rh_heap.specs.HeapCalls as heap_calls
use Rattle.rh_heap.specs.HeapSpans as spans
use Rattle.rh_module.proofs.SpanLaws.{span_of, old_heap, begins_there}
use Rattle.rh_module.proofs.CallLaws.{leaves, refuses}

module _ (m n : Memory) (module_area : Module) (span : Span) (address : ℕ) (s : IsModule m module_area) (at : span ≡ span_of module_area) where
  pub freed : {x : Unit {0}} → heap_calls.LeavesHeap m n span (no_answer (released_at address (spans.heap_in m span))) (Ok x)
      → LeavesModule m n module_area (no_answer (module_free address (module_heap_in m module_area))) (Ok tt)
  freed l =
      let h = module_heap_in m module_area in
      let w = released-found address h (l.answer ∙ ap (λ g. answer_of (no_answer (released_at address g))) (old_heap at s)) in
      let there = subst (λ g. spans.SpellsHeapIn n span (left_of g (no_answer (released_at address g)))) (old_heap at s) l.spells in
      leaves m n module_area (no_answer (module_free address h)) (release_block address h) tt (ap no_answer (module_free-some address h w.0 w.1))
      (record {
        whole = subst (λ (t : Span). length (bytes n t.area.0) ≡ length (bytes m t.area.0)) at l.only.outside.len ∙ s.spells.whole
            ∙ sym (release_found-end (block_at address h) h);
        spells = begins_there n module_area span (release_block address h) at (subst (λ g. spans.SpellsHeapIn n span (left_of h (no_answer g)))
            (released_at-some address h w.0 w.1) there);
      })
      (subst (λ (t : Span). OnlyArea m n t.area.0) at (OnlyArea-from_Edited m n span.area.0 _ _ l.only))

  pub free_refused : {refusal : HeapRefusal} → heap_calls.LeavesHeap m n span (no_answer (released_at address (spans.heap_in m span))) (Err refusal)
      → LeavesModule m n module_area (no_answer (module_free address (module_heap_in m module_area))) (Err (refusal_of refusal))
  free_refused {refusal} l =
      let h = module_heap_in m module_area in
      let w = released-refused address h (l.answer ∙ ap (λ g. answer_of (no_answer (released_at address g))) (old_heap at s)) in
      refuses m n module_area (no_answer (module_free address h)) (refusal_of refusal)
      (ap no_answer (module_free-none address h w.0) ∙ ap (λ r. Err (refusal_of r)) (sym w.1)) l.err s
