use Rattle.rh_tasks.proofs.Common.{List, refl, ◌∙◌, ap, sym, arith, Ok, err_from_is_err_and, SegmentItem, Granted, heap_start, slot_in, segment_items_at, ends}
use Rattle.rh_tasks.proofs.Common.{nobody, owned}
use Rattle.rh_tasks.specs.WorldLists.{segments_of}
use Rattle.rh_tasks.proofs.QuestionLaws.{of-slot}
use Rattle.rh_tasks.proofs.Readers.{small-end}
use Rattle.rh_tasks.proofs.SegmentItems.{items_from, small_from}
use Rattle.rh_tasks.proofs.world.World.segments_of.Goals as goal

pub returns-in_err-slot-clause-err : goal.returns-in_err-slot-clause-err
unfolding segments_of
returns-in_err-slot-clause-err g c =
    let p = err_from_is_err_and c.from_residual.result c.from_residual.ensures.1 in
    rw (p.1, p.2, c.in_err-slot.ensures.err.0, ← c.self.view_is) (ends _ (nobody _ _ _ _ _ _ c.in_err-slot.ensures.err.1), refl)

pub segment_items-requires-clause-small : goal.segment_items-requires-clause-small
segment_items-requires-clause-small g c =
    let is = owned c.self.invariant c.in_ok-slot.ensures.ok in
    rw (c.deref.ensures.0, c.segments_from.ensures)
    (small_from c.args.place (slot_in (g.S.Words.memory c.self.inside.store) c.in_ok-slot.slot).heap
    (omega (arith, is.spells.words.heap.heap.fits, small-end is (g.met.S.Words.small c.self.inside.store c.in_ok-slot.slot.area.0))))

pub returns-clause-ok : goal.returns-clause-ok
unfolding segments_of
returns-clause-ok g c =
    rw (← c.self.view_is, c.segment_items.ensures, c.deref.ensures.0, c.segments_from.ensures)
    (of-slot c.self.invariant c.in_ok-slot.ensures.ok (λ s. let r : Granted (List SegmentItem) = Ok (segment_items_at c.args.place s.heap) in r)
    ∙ ap Ok (sym (items_from heap_start c.args.place (slot_in (g.S.Words.memory c.self.inside.store) c.in_ok-slot.slot).heap)))
