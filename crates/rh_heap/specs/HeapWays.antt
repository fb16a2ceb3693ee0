-- How a block gets another size.
use Rattle.std.specs.Prelude.{◌≡◌, ℕ, ◌+◌, ◌-◌, List, IfSome}
use Rattle.rh_defs.specs.Memory.{Memory}
use Rattle.rh_defs.specs.Pieces.{Split}
use Rattle.rh_defs.specs.Heap.{Segment, Heap, Placed, bytes_of, block_at, way_to, resized_by, end_for, fitted}
use Rattle.rh_defs.specs.Heap as heap
use Rattle.rh_heap.specs.declared.span.Span.{Span}
use Rattle.rh_heap.specs.declared.span.segments.Spot.{Spot}
use Rattle.rh_heap.specs.declared.span.resize.ResizeWay.{ResizeWay}
use Rattle.rh_heap.specs.declared.span.resize.ResizeWay.TheVariants as way
use Rattle.rh_heap.specs.HeapSpans.{heap_in, SpellsHeapIn}
use Rattle.rh_heap.specs.declared.layout.TheConstants.{BLOCK}

-- a way of the code is this way of the definitions
pub data WayIs : heap.Way → ResizeWay → Type 0 where
  stays : WayIs heap.Stays way.Stays
  shrinks : WayIs heap.Shrinks way.Shrinks
  into_hole : (size : ℕ) (rest : List Segment) → WayIs (heap.GrowsIntoHole size rest) (way.IntoHole size)
  at_top : WayIs heap.GrowsAtTop way.AtTop
  to_hole : (hole : Split Segment) → WayIs (heap.MovesToHole hole) way.Moves
  to_top : WayIs heap.MovesToTop way.Moves

-- the block's cut, in the words of its address
abbrev pub WithBlock : Spot → Heap → (Split Segment → Type 0) → Type 0
WithBlock spot h P = IfSome (block_at (spot.place + BLOCK) h) P

-- the way in which the block gets a segment of t bytes
abbrev pub WayOf : ℕ → Spot → Heap → ResizeWay → Type 0
WayOf t spot h w = WithBlock spot h (λ s. WayIs (way_to t s h) w)

-- the heap after the block got a segment of t bytes
abbrev pub resized_in : ℕ → Split Segment → Heap → Placed
resized_in t s h = resized_by (way_to t s h) (fitted (t - BLOCK) (bytes_of s.here)) s h

-- the span's bytes spell that heap
abbrev pub SpellsResized : Memory → Memory → Span → ℕ → Spot → Type 0
SpellsResized m n span t spot = WithBlock spot (heap_in m span) (λ s. SpellsHeapIn n span (resized_in t s (heap_in m span)).heap)

-- by how much the heap is too short for it
abbrev pub short_by : ℕ → Split Segment → Heap → ℕ
short_by t s h = end_for (way_to t s h) t s h - h.end

abbrev pub ShortBy : Heap → ℕ → ℕ → Split Segment → Type 0
ShortBy h t n s = n ≡ short_by t s h
