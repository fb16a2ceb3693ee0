-- What each way to another size leaves of a heap.
use Rattle.std.specs.Prelude.{◌≡◌, ◌≢◌, ℕ, ◌-◌}
use Rattle.rh_defs.specs.Memory.{Memory}
use Rattle.rh_defs.specs.Pieces.{Split}
use Rattle.rh_defs.specs.Heap.{Segment, bytes_of, fitted, placed_block, release_block, shortage_in, hole_for}
use Rattle.rh_defs.specs.declared.heap.HeapRefusal.{HeapRefusal}
use Rattle.rh_defs.specs.declared.heap.HeapRefusal.TheVariants.{NoRoom}
use Rattle.rh_heap.specs.declared.span.Span.{Span}
use Rattle.rh_heap.specs.HeapSpans.{heap_in, SpellsHeapIn}
use Rattle.rh_heap.specs.declared.layout.TheConstants.{BLOCK}
use Rattle.rh_heap.specs.HeapWays.{resized_in, short_by}

-- the block has got it, and is now at this address
pub record Changed (m n : Memory) (span : Span) (t address : ℕ) (s : Split Segment) : Type 0 where
  pub room : short_by t s (heap_in m span) ≡ 0
  pub address_is : address ≡ (resized_in t s (heap_in m span)).address
  pub spells : SpellsHeapIn n span (resized_in t s (heap_in m span)).heap

-- the block has not got it, as the heap is too short
pub record NotChanged (m n : Memory) (span : Span) (t : ℕ) (refusal : HeapRefusal) (s : Split Segment) : Type 0 where
  pub no_room : short_by t s (heap_in m span) ≢ 0
  pub refusal_is : refusal ≡ NoRoom
  pub same : n ≡ m

-- the block has moved, and the one at an address is released
pub record Moved (m n : Memory) (span : Span) (t address place : ℕ) (s : Split Segment) : Type 0 where
  pub room : shortage_in t (heap_in m span) (hole_for t (heap_in m span).segments) ≡ 0
  pub address_is : address ≡ (placed_block (fitted (t - BLOCK) (bytes_of s.here)) (heap_in m span)).address
  pub spells : SpellsHeapIn n span (release_block place (placed_block (fitted (t - BLOCK) (bytes_of s.here)) (heap_in m span)).heap)
