-- In a flex block, or in a block of the C heap.
use Rattle.rh_slot.proofs.Common.{◌∙◌, sym, slot_in}
use Rattle.rh_slot.proofs.SpanLaws.{is_span_at, heap_at, inside_heap}
use Rattle.rh_slot.proofs.slot.Slot.inside.Goals as goal

pub holds-requires : goal.holds-requires
holds-requires g c = is_span_at _ c.args.self _ c.span.ensures c.requires.slot

pub returns-then-address-ge-C_HEAP_START : goal.returns-then-address-ge-C_HEAP_START
returns-then-address-ge-C_HEAP_START g c =
    inside_heap c.args.address c.args.n (slot_in (g.S.Words.memory c.args.store.now) c.args.self) _ c.holds.result
    (sym c.in_flex.ensures ∙ c.if-in_flex.false) c.if-address-ge-C_HEAP_START.true (heap_at _ c.args.self _ c.span.ensures) c.holds.ensures
