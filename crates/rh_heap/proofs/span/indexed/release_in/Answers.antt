use Rattle.rh_heap.proofs.PeakKeeps.{empty_peaks}
use Rattle.rh_heap.proofs.span.indexed.release_in.Goals as goal

pub release_by-requires-clause-peaks : goal.release_by-requires-clause-peaks
release_by-requires-clause-peaks g c = empty_peaks _
