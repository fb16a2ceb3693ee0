use Rattle.vf_desk.proofs.Common.{Some, ap, length, refl, sym, ◌∙◌}
use Rattle.vf_desk.proofs.BlockReadLaws.{read-closed, tells-status}
use Rattle.vf_desk.proofs.SeenLaws.{empty-seen, in-handle}
use Rattle.vf_desk.specs.Inner.BlockSteps.{reading_of}
use Rattle.vf_desk.proofs.desk.VfDesk.read.Goals as goal

pub returns-in_default : goal.returns-in_default
returns-in_default c = record {
  tells = λ s seen. tells-status _ _ _ (read-closed refl (reading_of c.args.place c.args.offset (length c.args.to.now)) s
      (empty-seen (sym c.in_default.ensures.taken) s seen));
  same = c.in_default.ensures.left ∙ c.in_default.ensures.taken;
}

pub returns : goal.returns
returns c = record {
  tells = in-handle (ap Some c.deref.ensures ∙ c.in-Some.ensures.taken) c.read-status.ensures;
  same = c.put.ensures ∙ c.in-Some.ensures.taken;
}
