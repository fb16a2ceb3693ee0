-- The tracts that were looked at have numbers that are smaller than the size.
use Rattle.rh_heap.proofs.Common.{◌≡◌, ℕ, ◌<◌, ◌-◌, ◌/◌, length, heap_in}
use Rattle.rh_peaks.specs.Peaks.{peak}
use Rattle.rh_store.specs.Tracts.{ArePeaks}
use Rattle.rh_heap.proofs.span.peaks.find_by_tracts.Given as goal

abbrev pub invariant-search : goal.invariant-search
invariant-search g l = record {
  peaks : ArePeaks l.peaks (heap_in (g.S.Words.memory l.store) l.span);
  long : length l.peaks ≡ length l.fn.peaks;
  less : (j : ℕ) → j < l.next → peak l.peaks j < l.size;
}

abbrev pub decreases-search : goal.decreases-search
decreases-search g l = length l.peaks / 2 - l.next
