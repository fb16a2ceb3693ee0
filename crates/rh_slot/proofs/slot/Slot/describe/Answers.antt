-- The sums of the C heap.
use Rattle.rh_slot.proofs.Common.{ap, ◌∙◌, Heap}
use Rattle.rh_defs.specs.Heap.{largest, free_bytes}
use Rattle.rh_slot.proofs.SpanLaws.{is_span_at, heap_at}
use Rattle.rh_slot.proofs.slot.Slot.describe.Goals as goal

pub describe-largest-requires : goal.describe-largest-requires
describe-largest-requires g c = is_span_at _ c.args.self _ c.span.ensures c.requires.slot

pub end-requires : goal.end-requires
end-requires g c = is_span_at _ c.args.self _ c.span-2.ensures c.requires.slot

pub returns-clause-end : goal.returns-clause-end
returns-clause-end g c = c.end.ensures ∙ ap (λ (h : Heap). h.end) (heap_at _ c.args.self _ c.span-2.ensures)

pub returns-clause-largest : goal.returns-clause-largest
returns-clause-largest g c = c.describe-largest.ensures.largest ∙ ap largest (heap_at _ c.args.self _ c.span.ensures)

pub returns-clause-total : goal.returns-clause-total
returns-clause-total g c = c.describe-largest.ensures.total ∙ ap free_bytes (heap_at _ c.args.self _ c.span.ensures)
