use Rattle.rh_slot.proofs.Common.{refl, ap, ◌∙◌, no_answer, OnlyArea-from_Edited, slot_in}
use Rattle.rh_slot.proofs.SpanLaws.{budging_same}
use Rattle.rh_slot.proofs.LeaveLaws.{leaves, refuses}
use Rattle.rh_slot.proofs.FlexLaws.{paged}
use Rattle.rh_slot.proofs.EditLaws.{put_words, put_none, put_beyond, put_at, beyond}
use Rattle.rh_slot.proofs.slot.Slot.put.Goals as goal

pub returns-in_default : goal.returns-in_default
returns-in_default g c =
    refuses _ _ _ _ _ (ap no_answer (put_none _ _ _ (slot_in (g.S.Words.memory c.args.store.now) c.args.self) c.in_default.ensures)) refl c.requires.slot

pub returns-then-not-fits : goal.returns-then-not-fits
returns-then-not-fits g c =
    refuses _ _ _ _ _ (ap no_answer (put_beyond _ _ _ _ _ _ c.in-Some.ensures (beyond _ _ _ c.fits.ensures c.if-not-fits.true))) refl c.requires.slot

pub returns : goal.returns
returns g c =
    let a = put_words _ _ _ _ _ _ c.args.offset _ c.args.from.now c.requires.slot.spells.words c.in-Some.ensures.at (c.fits.ensures.0 c.if-not-fits.false)
    c.write_bytes.ensures.value in
    leaves _ _ _ _ _ tt (ap no_answer (put_at _ _ _ _ _ _ _ c.in-Some.ensures.at (c.fits.ensures.0 c.if-not-fits.false)))
    (budging_same (g.S.Words.memory c.args.store.now) c.args.self)
    (paged _ _ _ a.0 a.1 (c.write_bytes.ensures.only.outside.len ∙ c.requires.slot.spells.pages)) (OnlyArea-from_Edited _ _ _ _ _ c.write_bytes.ensures.only)
