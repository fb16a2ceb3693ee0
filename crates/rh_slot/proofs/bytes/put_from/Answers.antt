use Rattle.rh_slot.proofs.Common.{refl, ap, arith, no_answer, bytes, length-part, slot_in}
use Rattle.rh_slot.proofs.LeaveLaws.{refuses}
use Rattle.rh_slot.proofs.EditLaws.{put_none, put_beyond, beyond}
use Rattle.rh_slot.proofs.WriteLaws.{put_copied}
use Rattle.rh_slot.proofs.bytes.put_from.Goals as goal

pub returns-in_default : goal.returns-in_default
returns-in_default g c =
    refuses _ _ _ _ _ (ap no_answer (put_none _ _ _ (slot_in (g.S.Words.memory c.args.store.now) c.args.slot) c.in_default.ensures)) refl c.requires.slot

pub returns-then-not-fits : goal.returns-then-not-fits
returns-then-not-fits g c =
    let most = beyond _ _ _ c.fits.ensures c.if-not-fits.true in
    let n = length-part (bytes (g.S.Words.memory c.args.store.now) c.args.from.0) c.args.place c.args.n in
    refuses _ _ _ _ _ (ap no_answer (put_beyond _ _ _ _ _ _ c.in-Some.ensures (omega arith))) refl c.requires.slot

pub returns : goal.returns
returns g c =
    let most = c.fits.ensures.0 c.if-not-fits.false in
    let n = length-part (bytes (g.S.Words.memory c.args.store.now) c.args.from.0) c.args.place c.args.n in
    put_copied _ _ _ _ _ _ _ _ _ c.requires.slot c.in-Some.ensures.at (omega arith) c.copy.ensures
