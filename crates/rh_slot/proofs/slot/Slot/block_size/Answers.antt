-- The size of a block of the C heap.
use Rattle.std.proofs.lemmas.Result.{err_from_is_err_and}
use Rattle.rh_slot.proofs.SpanLaws.{is_span_at, heap_at}
use Rattle.rh_slot.proofs.CHeapLaws.{size_refused, size_granted}
use Rattle.rh_slot.proofs.slot.Slot.block_size.Goals as goal

pub block_size-requires : goal.block_size-requires
block_size-requires g c = is_span_at _ c.args.self _ c.span.ensures c.requires.slot

pub returns-in_err-size : goal.returns-in_err-size
returns-in_err-size g c =
    let p = err_from_is_err_and c.from_residual.result c.from_residual.ensures.1 in
    let e = rw (heap_at _ c.args.self _ c.span.ensures, c.saturating_sub.ensures) at c.in_err-size.ensures in
    rw (p.1, p.2) (size_refused _ _ e)

pub returns : goal.returns
returns g c =
    let e = rw (heap_at _ c.args.self _ c.span.ensures, c.saturating_sub.ensures) at c.in_ok-size.ensures in
    size_granted _ _ e
