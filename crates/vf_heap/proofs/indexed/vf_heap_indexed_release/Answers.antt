use Rattle.vf_heap.proofs.Maps.{stays}
use Rattle.vf_heap.proofs.indexed.vf_heap_indexed_release.Goals as goal

pub returns-clause-refused : goal.returns-clause-refused
returns-clause-refused c = stays _ _ _ _ c.release.ensures.same c.outcome_status.ensures
