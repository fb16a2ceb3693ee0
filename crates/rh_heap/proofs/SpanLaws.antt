-- Spans whose bytes spell a heap, for callers.
use Rattle.rh_heap.proofs.Common.{◌≡◌, sym, subst, Memory, Heap, Spells, heap_of-Spells, IsSpan, SpellsHeapIn, bytes_in, heap_in, Span}
use Rattle.rh_defs.specs.Memory.{IsOpen}

-- the heap in a span is the one that its bytes spell
pub heap_now : (m : Memory) (span : Span) (h : Heap) → SpellsHeapIn m span h → heap_in m span ≡ h
heap_now m span h s = heap_of-Spells (bytes_in m span) span.at h s

pub is_span : (m : Memory) (span : Span) (h : Heap) → IsOpen m span.area.0 → SpellsHeapIn m span h → IsSpan m span
is_span m span h o s = record { opened = o; spells = subst (Spells (bytes_in m span) span.at) (sym (heap_of-Spells (bytes_in m span) span.at h s)) s }
