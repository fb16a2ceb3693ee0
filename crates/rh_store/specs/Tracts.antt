-- The numbers of a heap's tracts. They are bounds: a number may be larger than its tract's largest hole.
use Rattle.std.specs.Prelude.{◌≢◌, ℕ, ◌+◌, ◌*◌, ◌/◌, ◌^◌, ◌<◌, ◌≤◌, List, [], ◌∷◌, length}
use Rattle.rh_defs.specs.Heap.{Segment, Used, Hole, Heap, first_place}
use Rattle.rh_peaks.specs.Peaks.{IsTree, peak}
use Rattle.rh_store.specs.declared.starts.TheConstants.{TRACT_BYTES}

-- each hole, of segments that stand from place q on, has at most as many bytes as are given for the tract in which it begins
abbrev pub AreBelow : (ℕ → ℕ) → ℕ → List Segment → Type 0
AreBelow most q [] = Unit {0}
AreBelow most q (Used bytes ∷ segments) = AreBelow most (q + (4 + length bytes)) segments
AreBelow most q (Hole size ∷ segments) = (size ≤ most (q / TRACT_BYTES)) × AreBelow most (q + size) segments

-- A row of numbers for a heap's tracts, up to its end. An empty row says nothing.
pub record ArePeaks (nodes : List ℕ) (h : Heap) : Type 0 where
  pub tree : IsTree nodes
  pub few : length nodes < 2 ^ 40
  pub long : length nodes ≢ 0 → h.end ≤ TRACT_BYTES * (length nodes / 2)
  pub below : length nodes ≢ 0 → AreBelow (peak nodes) first_place h.segments
