-- Calls on the heap that has grown by what it was short of.
use Rattle.rh_module.proofs.Common.{◌≡◌, ℕ, length, refl, sym, ap, subst, ◌∙◌, Result, Ok, IsOk, Memory, OnlyArea, bytes, pages_for, Heap, answer_of, left_of}
use Rattle.rh_module.proofs.Common.{HeapRefusal, OnlyArea-from_Edited, Span, Module, SpellsModuleIn, longer, LeavesModule}
use Rattle.rh_defs.specs.Heap.{as_granted, raised}
use Rattle.rh_defs.specs.Chain.{Granted}
use Rattle.rh_defs.proofs.MemoryLaws.{OnlyArea-both}
use Rattle.rh_defs.proofs.ModuleLaws.{Grows}
use Rattle.rh_heap.specs.HeapCalls as heap_calls
use Rattle.rh_heap.specs.HeapSpans as spans
use Rattle.rh_module.proofs.SpanLaws.{span_of, heap_there, begins_there}
use Rattle.rh_module.proofs.CallLaws.{leaves}

-- the area and its heap h have grown for the shortage of a call
pub record Grown (k : Memory) (module_area : Module) (span : Span) (h : Heap) (shortage : ℕ) (call : Heap → Result (Heap × ℕ) HeapRefusal)
    (granted : Granted (Heap × ℕ)) : Type 0 where
  pub grows : Grows (raised shortage h).end (call (raised shortage h)) granted
  pub at : span ≡ span_of module_area
  pub pages : ℕ
  pub pages_are : pages ≡ pages_for shortage
  pub long : SpellsModuleIn k module_area (longer pages h)

module _ {k : Memory} {module_area : Module} {span : Span} {h : Heap} {shortage : ℕ} {call : Heap → Result (Heap × ℕ) HeapRefusal} {granted : Granted
    (Heap × ℕ)}
    (w : Grown k module_area span h shortage call granted) where
  raised_there : spans.heap_in k span ≡ raised shortage h
  raised_there = heap_there k module_area span (longer w.pages h) w.at w.long.spells ∙ ap (λ p. longer p h) w.pages_are

  called : call (spans.heap_in k span) ≡ Ok (as_granted w.grows.placed)
  called = ap call raised_there ∙ w.grows.called_is

  module _ (m n : Memory) (r : Result ℕ HeapRefusal) (l : heap_calls.LeavesHeap k n span (call (spans.heap_in k span)) r) where
    -- the heap's call is done
    pub is_done : IsOk r
    is_done = rw (l.answer ∙ ap answer_of called) refl

    -- and so is that on the module area
    pub done : (x : ℕ) → r ≡ Ok x → OnlyArea m k module_area.area.0 → LeavesModule m n module_area granted (Ok x)
    done x u only =
        let new = w.grows.placed.heap in
        let same : ◌≡◌ {A = Result ℕ HeapRefusal} (Ok w.grows.placed.address) (Ok x) = sym (sym u ∙ l.answer ∙ ap answer_of called) in
        let address : w.grows.placed.address ≡ x = cc in
        let spelt = begins_there n module_area span new w.at (subst (λ c. spans.SpellsHeapIn n span (left_of (spans.heap_in k span) c)) called l.spells) in
        let len : length (bytes n module_area.area.0) ≡ length (bytes k module_area.area.0) =
        subst (λ (t : Span). length (bytes n t.area.0) ≡ length (bytes k t.area.0)) w.at l.only.outside.len in
        leaves m n module_area granted new x (w.grows.granted_is ∙ ap (λ i. Ok (new, i)) address)
        (record { whole = len ∙ w.long.whole ∙ ap (λ p. (longer p h).end) w.pages_are ∙ sym w.grows.end_is; spells = spelt })
        (OnlyArea-both m k n module_area.area.0 only (subst (λ (t : Span). OnlyArea k n t.area.0) w.at (OnlyArea-from_Edited k n span.area.0 _ _ l.only)))
