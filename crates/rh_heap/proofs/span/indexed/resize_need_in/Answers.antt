use Rattle.rh_heap.proofs.PeakKeeps.{empty_peaks}
use Rattle.rh_heap.proofs.span.indexed.resize_need_in.Goals as goal

pub locate_in-requires-clause-peaks : goal.locate_in-requires-clause-peaks
locate_in-requires-clause-peaks g c = empty_peaks _
