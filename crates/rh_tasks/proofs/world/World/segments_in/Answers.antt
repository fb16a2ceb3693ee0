use Rattle.rh_tasks.proofs.Common.{◌∙◌, ap, sym, arith, Ok, err_from_is_err_and, heap_start, slot_in}
use Rattle.rh_tasks.proofs.Readers.{small-end}
use Rattle.rh_tasks.proofs.SegmentItems.{items_from, small_from}
use Rattle.rh_tasks.proofs.SightLaws.{no-segments, segments-are}
use Rattle.rh_tasks.proofs.Slides.{seat-slot}
use Rattle.rh_tasks.proofs.TransferBlocks.{place-is, place-none, seat-of}
use Rattle.rh_tasks.proofs.world.World.segments_in.Goals as goal

pub returns-in_err-i-clause-err : goal.returns-in_err-i-clause-err
returns-in_err-i-clause-err g c =
    let p = err_from_is_err_and c.from_residual.result c.from_residual.ensures.1 in
    let e = place-none _ c.with_handle.result c.in_err-i.ensures.value c.with_handle.ensures in
    rw (p.1, p.2, e.0, ← c.self.view_is) (no-segments c.self.invariant _ e.1 c.args.place)

pub segment_items-requires-clause-small : goal.segment_items-requires-clause-small
segment_items-requires-clause-small g c =
    let a = seat-of _ _ _ _ (place-is _ c.with_handle.result c.in_ok-i.ensures.value c.with_handle.ensures) c.index.ensures in
    let is = seat-slot c.self.invariant a.at in
    rw (c.deref.ensures.0, c.segments_from.ensures)
    (small_from c.args.place (slot_in (g.S.Words.memory c.self.inside.store) c.index.result.now.slot).heap
    (omega (arith, is.spells.words.heap.heap.fits, small-end is (g.met.S.Words.small c.self.inside.store c.index.result.now.slot.area.0))))

pub returns-clause-ok : goal.returns-clause-ok
returns-clause-ok g c =
    let a = seat-of _ _ _ _ (place-is _ c.with_handle.result c.in_ok-i.ensures.value c.with_handle.ensures) c.index.ensures in
    rw (← c.self.view_is, c.segment_items.ensures, c.deref.ensures.0, c.segments_from.ensures)
    (segments-are c.self.invariant a c.args.place
    ∙ ap Ok (sym (items_from heap_start c.args.place (slot_in (g.S.Words.memory c.self.inside.store) c.index.result.now.slot).heap)))
