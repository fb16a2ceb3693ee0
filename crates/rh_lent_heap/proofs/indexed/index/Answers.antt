use Rattle.rh_lent_heap.proofs.Common.{bytes, area_set, memory_shown, memory_over}
use Rattle.rh_lent_heap.proofs.HeapBytes.{is_span}
use Rattle.rh_lent_heap.proofs.indexed.index.Goals as goal

pub index-requires-clause-span : goal.index-requires-clause-span
unfolding memory_shown
index-requires-clause-span c = is_span c.args.memory.now _ c.requires.heap

pub index-requires-clause-long : goal.index-requires-clause-long
unfolding memory_shown memory_over bytes area_set
index-requires-clause-long c = c.requires.long

pub returns-clause-starts : goal.returns-clause-starts
unfolding memory_shown memory_over bytes area_set
returns-clause-starts c = c.index.ensures.starts
