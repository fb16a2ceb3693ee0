-- Heaps in spans of areas.
use Rattle.std.specs.Prelude.{ℕ, ◌+◌, List}
use Rattle.rh_defs.specs.Memory.{Memory, IsOpen, Edited, bytes}
use Rattle.rh_defs.specs.Heap.{Heap}
use Rattle.rh_defs.specs.HeapImage.{Spells, heap_of}
use Rattle.rh_heap.specs.declared.span.Span.{Span}

-- the bytes of a span's area
abbrev pub bytes_in : Memory → Span → List ℕ
bytes_in m span = bytes m span.area.0

-- the heap that a span's bytes spell
abbrev pub heap_in : Memory → Span → Heap
heap_in m span = heap_of (bytes_in m span) span.at

-- the area is open, and the span's bytes spell a heap
pub record IsSpan (m : Memory) (span : Span) : Type 0 where
  pub opened : IsOpen m span.area.0
  pub spells : Spells (bytes_in m span) span.at (heap_in m span)

-- the span's bytes now spell this heap
abbrev pub SpellsHeapIn : Memory → Span → Heap → Type 0
SpellsHeapIn m span h = Spells (bytes_in m span) span.at h

-- nothing but the bytes of the heap's span has changed
abbrev pub OnlySpan : Memory → Memory → Span → Type 0
OnlySpan m n span = Edited m n span.area.0 span.at (span.at + (heap_in m span).end)
