use Rattle.rh_heap.proofs.PeakKeeps.{empty_peaks}
use Rattle.rh_heap.proofs.span.indexed.claim_in.Goals as goal

pub claim_by-requires-clause-peaks : goal.claim_by-requires-clause-peaks
claim_by-requires-clause-peaks g c = empty_peaks _
