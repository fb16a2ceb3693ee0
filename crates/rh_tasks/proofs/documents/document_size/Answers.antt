use Rattle.rh_tasks.proofs.Common.{sym, arith, slot_in}
use Rattle.rh_tasks.proofs.Readers.{small-size}
use Rattle.rh_tasks.proofs.Appends.{size-above}
use Rattle.rh_tasks.proofs.documents.document_size.Goals as goal

pub returns-then-from-ge-ANCHORS : goal.returns-then-from-ge-ANCHORS
returns-then-from-ge-ANCHORS g c =
    sym (size-above c.args.anchor (slot_in (g.S.Words.memory c.args.store.now) c.args.slot) (omega (arith, c.if-from-ge-ANCHORS.true, c.from.ensures))
    c.requires.spells.words.anchors)

pub overflow_cast-result : goal.overflow_cast-result
overflow_cast-result g c =
    omega (arith, small-size c.requires (g.met.S.Words.small c.args.store.now c.args.slot.area.0) c.args.anchor c.in_ok-size.size c.in_ok-size.ensures)
