use Rattle.rh_slot.proofs.Common.{length, sym, ap, ◌∙◌, slot_in}
use Rattle.rh_defs.specs.Chain.{outcome_of, result_or}
use Rattle.rh_slot.proofs.EditLaws.{read_bytes, read_none, read_beyond, read_at, beyond}
use Rattle.rh_slot.proofs.slot.Slot.read.Goals as goal

pub returns-in_default-clause-answer : goal.returns-in_default-clause-answer
returns-in_default-clause-answer g c = sym (ap outcome_of (read_none _ _ _ (slot_in (g.S.Words.memory c.args.store.now) c.args.self) c.in_default.ensures))

pub returns-in_default-clause-bytes : goal.returns-in_default-clause-bytes
returns-in_default-clause-bytes g c =
    sym (ap (result_or c.args.to.now) (read_none _ c.args.offset (length c.args.to.now) (slot_in (g.S.Words.memory c.args.store.now) c.args.self)
    c.in_default.ensures))

pub returns-then-not-fits-clause-answer : goal.returns-then-not-fits-clause-answer
returns-then-not-fits-clause-answer g c = sym (ap outcome_of (read_beyond _ _ _ _ _ _ c.in-Some.ensures (beyond _ _ _ c.fits.ensures c.if-not-fits.true)))

pub returns-then-not-fits-clause-bytes : goal.returns-then-not-fits-clause-bytes
returns-then-not-fits-clause-bytes g c =
    sym (ap (result_or c.args.to.now) (read_beyond _ _ _ _ _ _ c.in-Some.ensures (beyond _ _ _ c.fits.ensures c.if-not-fits.true)))

pub returns-clause-answer : goal.returns-clause-answer
returns-clause-answer g c = sym (ap outcome_of (read_at _ _ _ _ _ _ _ c.in-Some.ensures.at (c.fits.ensures.0 c.if-not-fits.false)))

pub returns-clause-bytes : goal.returns-clause-bytes
returns-clause-bytes g c =
    c.copy_out.ensures ∙ read_bytes _ _ _ _ _ c.args.offset (length c.args.to.now) _ c.requires.slot.spells.words c.in-Some.ensures.at
    (c.fits.ensures.0 c.if-not-fits.false)
    ∙ sym (ap (result_or c.args.to.now) (read_at _ _ _ _ _ _ _ c.in-Some.ensures.at (c.fits.ensures.0 c.if-not-fits.false)))
