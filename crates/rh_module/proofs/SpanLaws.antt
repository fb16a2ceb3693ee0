-- The module area as a span that a heap stands in.
use Rattle.rh_module.proofs.Common.{◌≡◌, sym, subst, Memory, IsOpen, bytes, Heap, IsImage, heap_of-Spells, Span, Module, IsModule, SpellsModuleIn}
use Rattle.rh_module.proofs.Common.{module_heap_in}
use Rattle.rh_defs.specs.HeapImage.{Spells}
use Rattle.rh_heap.specs.HeapSpans as spans
use Rattle.rh_heap.proofs.SpanLaws as span_laws

-- where the module area's heap stands
abbrev pub span_of : Module → Span
span_of module_area = record { area = module_area.area; at = 0 }

-- the area's bytes spell this heap, perhaps with more bytes behind it
abbrev pub Begins : Memory → Module → Heap → Type 0
Begins m module_area h = Spells (bytes m module_area.area.0) 0 h

pub is_span : (m : Memory) (module_area : Module) (span : Span) (h : Heap) → span ≡ span_of module_area → IsOpen m module_area.area.0 → Begins m module_area h
    → spans.IsSpan m span
is_span m module_area span h e o s = subst (spans.IsSpan m) (sym e) (span_laws.is_span m (span_of module_area) h o s)

pub heap_there : (m : Memory) (module_area : Module) (span : Span) (h : Heap) → span ≡ span_of module_area → Begins m module_area h → spans.heap_in m span ≡ h
heap_there m module_area span h e s = subst (λ t. spans.heap_in m t ≡ h) (sym e) (heap_of-Spells (bytes m module_area.area.0) 0 h s)

pub begins_there : (m : Memory) (module_area : Module) (span : Span) (h : Heap) → span ≡ span_of module_area → spans.SpellsHeapIn m span h
    → Begins m module_area h
begins_there m module_area span h e s = subst (λ t. spans.SpellsHeapIn m t h) e s

-- before a call
pub old_heap : {m : Memory} {module_area : Module} {span : Span} → span ≡ span_of module_area → IsModule m module_area → spans.heap_in m span
    ≡ module_heap_in m module_area
old_heap {m = m} {module_area = module_area} {span = span} e s = heap_there m module_area span (module_heap_in m module_area) e s.spells.spells

-- after it
pub is_module : (m : Memory) (module_area : Module) (h : Heap) → IsOpen m module_area.area.0 → SpellsModuleIn m module_area h → IsModule m module_area
is_module m module_area h o s = record {
  opened = o;
  spells = subst (IsImage (bytes m module_area.area.0))
      (sym (heap_of-Spells (bytes m module_area.area.0) 0 h s.spells)) s;
}
