use Rattle.rh_lent_heap.proofs.Common.{bytes, area_set, memory_shown, memory_over}
use Rattle.rh_lent_heap.proofs.HeapBytes.{is_span}
use Rattle.rh_lent_heap.proofs.heap.segment.Goals as goal

pub segment-requires : goal.segment-requires
unfolding memory_shown
segment-requires c = is_span c.args.memory.now _ c.requires

pub returns : goal.returns
unfolding memory_shown memory_over bytes area_set
returns c = c.segment.ensures
