-- The segment of the C heap.
use Rattle.std.proofs.Common.{ap, ◌∙◌}
use Rattle.std.specs.Option.{option_map}
use Rattle.rh_defs.specs.Heap.{segment_at}
use Rattle.rh_heap.specs.Segments.{piece}
use Rattle.rh_slot.proofs.SpanLaws.{is_span_at, heap_at}
use Rattle.rh_slot.proofs.slot.Slot.segment.Goals as goal

pub segment-requires : goal.segment-requires
segment-requires g c = is_span_at _ c.args.self _ c.span.ensures c.requires.slot

pub returns : goal.returns
returns g c = c.segment.ensures ∙ ap (λ h. option_map piece (segment_at c.args.place h)) (heap_at _ c.args.self _ c.span.ensures)
