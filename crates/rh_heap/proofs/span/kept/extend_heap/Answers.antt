use Rattle.rh_heap.proofs.Common.{ap, to_z-of_z, w32, heap_in}
use Rattle.rh_heap.proofs.RowLaws.{rows_extended}
use Rattle.rh_heap.proofs.span.kept.extend_heap.Goals as goal

pub keep_map-requires-clause-index : goal.keep_map-requires-clause-index
keep_map-requires-clause-index g c =
    rows_extended _ _ _ _ _ _ _ _ _ (to_z-of_z w32 c.args.delta c.ranges.delta) (ap (λ m. heap_in m c.args.span) c.map_for_change.ensures.same)
    c.extend_heap-result.ensures.heap c.in-Some.ensures.index c.in-Some.ensures.long c.requires.within
