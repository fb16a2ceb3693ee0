use Rattle.rh_lent_heap.proofs.Common.{arith, bytes, area_set, memory_shown, memory_over}
use Rattle.rh_lent_heap.proofs.HeapBytes.{is_span}
use Rattle.rh_lent_heap.proofs.heap.end.Goals as goal

pub end-requires : goal.end-requires
unfolding memory_shown
end-requires c = is_span c.args.memory.now _ c.requires

pub returns-clause-end : goal.returns-clause-end
unfolding memory_shown memory_over bytes area_set
returns-clause-end c = c.end.ensures

pub returns-clause-within : goal.returns-clause-within
unfolding memory_shown memory_over bytes area_set
returns-clause-within c = let w = c.requires.spells.within in let e = c.end.ensures in omega arith
