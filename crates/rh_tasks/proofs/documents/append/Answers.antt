use Rattle.rh_tasks.proofs.Common.{refl, ap, arith, no_answer, slot_in}
use Rattle.rh_slot.proofs.LeaveLaws.{refuses}
use Rattle.rh_tasks.proofs.Appends.{append-above, first-above}
use Rattle.rh_tasks.proofs.documents.append.Goals as goal

pub returns-then-from-ge-ANCHORS : goal.returns-then-from-ge-ANCHORS
returns-then-from-ge-ANCHORS g c =
    let none = append-above _ c.args.anchor _ (slot_in (g.S.Words.memory c.args.store.now) c.args.slot)
    (omega (arith, c.if-from-ge-ANCHORS.true, c.from.ensures)) c.requires.slot.spells.words.anchors in
    refuses _ _ _ _ _ (ap no_answer none) refl c.requires.slot

pub append_from-requires-clause-above : goal.append_from-requires-clause-above
append_from-requires-clause-above g c = λ e l. first-above c.requires.slot c.args.place c.args.n (c.requires.below e) l

pub append_from-requires-clause-below : goal.append_from-requires-clause-below
append_from-requires-clause-below g c = λ e. (c.requires.below e).below
