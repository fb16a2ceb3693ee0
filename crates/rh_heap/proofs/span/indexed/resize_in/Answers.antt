use Rattle.rh_heap.proofs.PeakKeeps.{empty_peaks}
use Rattle.rh_heap.proofs.span.indexed.resize_in.Goals as goal

pub resize_by-requires-clause-peaks : goal.resize_by-requires-clause-peaks
resize_by-requires-clause-peaks g c = empty_peaks _
