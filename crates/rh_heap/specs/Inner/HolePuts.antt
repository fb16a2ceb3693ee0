-- How a stretch becomes a hole.
use Rattle.std.specs.Prelude.{ℕ, ◌-◌, true, List, ◌∷◌, ◌++◌}
use Rattle.rh_defs.specs.Heap.{Segment, Hole, IsTidy}
use Rattle.rh_defs.specs.HeapImage.{Spells}
use Rattle.rh_heap.specs.declared.span.stretch.Stretch.{Stretch}
use Rattle.rh_heap.specs.Stretches.{StretchBetween}

-- the bytes of a stretch that no hole follows now spell the heap with a hole in its place
abbrev pub PutsHole : List ℕ → List ℕ → ℕ → Stretch → Type 0
PutsHole b c at stretch = (end : ℕ) (xs ys : List Segment) → StretchBetween b at end xs ys stretch → IsTidy true ys
    → Spells c at (record { segments = xs ++ Hole (stretch.upper - stretch.low) ∷ ys; end = end })
