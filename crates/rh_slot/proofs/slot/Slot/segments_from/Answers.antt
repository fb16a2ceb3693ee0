-- The segments of the C heap.
use Rattle.std.proofs.Common.{ap, ◌∙◌}
use Rattle.rh_heap.specs.Listed.{segments_from}
use Rattle.rh_slot.proofs.SpanLaws.{is_span_at, heap_at}
use Rattle.rh_slot.proofs.slot.Slot.segments_from.Goals as goal

pub segments_from-requires : goal.segments_from-requires
segments_from-requires g c = is_span_at _ c.args.self _ c.span.ensures c.requires.slot

pub returns : goal.returns
returns g c = c.segments_from.ensures ∙ ap (λ h. segments_from c.args.place h) (heap_at _ c.args.self _ c.span.ensures)
