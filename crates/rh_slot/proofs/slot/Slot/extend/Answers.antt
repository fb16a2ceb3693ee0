use Rattle.rh_slot.proofs.Common.{refl, ap, no_answer, slot_in}
use Rattle.rh_slot.proofs.LeaveLaws.{refuses, in_other_words}
use Rattle.rh_slot.proofs.EditLaws.{extend_none, extend_at}
use Rattle.rh_slot.proofs.slot.Slot.extend.Goals as goal

pub returns-in_default : goal.returns-in_default
returns-in_default g c =
    refuses _ _ _ _ _ (ap no_answer (extend_none _ _ _ (slot_in (g.S.Words.memory c.args.store.now) c.args.self) c.in_default.ensures)) refl c.requires.slot

pub returns : goal.returns
returns g c =
    let t = c.in-Some.ensures.at in
    in_other_words _ _ _ _ _ _ (ap no_answer (extend_at _ _ _ _ _ _ _ _ _ t c.saturating_sub.ensures c.saturating_sub-2.ensures)) (c.splice.ensures _ t)
