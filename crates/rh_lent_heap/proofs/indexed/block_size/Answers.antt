use Rattle.rh_lent_heap.proofs.Common.{bytes, area_set, memory_shown, memory_over}
use Rattle.rh_lent_heap.proofs.HeapBytes.{is_span}
use Rattle.rh_lent_heap.proofs.indexed.block_size.Goals as goal

pub block_size_in-requires-clause-span : goal.block_size_in-requires-clause-span
unfolding memory_shown
block_size_in-requires-clause-span c = is_span c.args.memory.now _ c.requires.heap

pub block_size_in-requires-clause-starts : goal.block_size_in-requires-clause-starts
unfolding memory_shown memory_over bytes area_set
block_size_in-requires-clause-starts c = c.requires.starts

pub returns : goal.returns
unfolding memory_shown memory_over bytes area_set
returns c = c.block_size_in.ensures
