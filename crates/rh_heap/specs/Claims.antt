-- What a new block makes of a heap.
use Rattle.std.specs.Prelude.{◌≡◌, ℕ, ◌-◌}
use Rattle.rh_defs.specs.Memory.{Memory}
use Rattle.rh_defs.specs.Pieces.{zeros}
use Rattle.rh_defs.specs.Heap.{hole_for, placed_block, shortage_in}
use Rattle.rh_heap.specs.declared.span.Span.{Span}
use Rattle.rh_heap.specs.HeapSpans.{heap_in, SpellsHeapIn}
use Rattle.rh_heap.specs.declared.layout.TheConstants.{BLOCK}

-- a block of zeros is put into a segment of t bytes
pub record Took (m n : Memory) (span : Span) (t address : ℕ) : Type 0 where
  pub room : shortage_in t (heap_in m span) (hole_for t (heap_in m span).segments) ≡ 0
  pub address_is : address ≡ (placed_block (zeros (t - BLOCK)) (heap_in m span)).address
  pub spells : SpellsHeapIn n span (placed_block (zeros (t - BLOCK)) (heap_in m span)).heap
