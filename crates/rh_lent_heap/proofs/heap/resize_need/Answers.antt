use Rattle.rh_lent_heap.proofs.Common.{ap, ◌∙◌, ℤ, w32, to_z-of_z, heap_of, bytes, area_set, memory_shown, memory_over}
use Rattle.rh_defs.specs.Heap.{need_at}
use Rattle.rh_lent_heap.proofs.HeapBytes.{is_span}
use Rattle.rh_lent_heap.proofs.heap.resize_need.Goals as goal

pub resize_need-requires : goal.resize_need-requires
unfolding memory_shown
resize_need-requires c = is_span c.args.memory.now _ c.requires

pub returns : goal.returns
unfolding memory_shown memory_over bytes area_set
returns c =
    c.resize_need.ensures ∙ ap (λ (d : ℤ). need_at c.args.address d (heap_of c.args.memory.now 0)) (to_z-of_z w32 c.args.delta c.ranges.delta)
