use Rattle.vf_heap.proofs.Maps.{stays}
use Rattle.vf_heap.proofs.indexed.vf_heap_indexed_resize.Goals as goal

pub returns-in-Ok-clause-refused : goal.returns-in-Ok-clause-refused
returns-in-Ok-clause-refused c = stays _ _ _ _ c.resize.ensures.same c.give_number.ensures.status
