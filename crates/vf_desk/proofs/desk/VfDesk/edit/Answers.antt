use Rattle.vf_desk.proofs.Common.{Some, ap, ◌∙◌}
use Rattle.vf_desk.proofs.BlockEditLaws.{edited-held, edited-none}
use Rattle.vf_desk.specs.Inner.BlockSteps.{edit_of}
use Rattle.vf_desk.proofs.desk.VfDesk.edit.Goals as goal

pub returns-in_default : goal.returns-in_default
returns-in_default c = edited-none c.in_default.ensures.taken c.in_default.ensures.left c.status.ensures (edit_of c.args.edit)

pub returns : goal.returns
returns c = edited-held (ap Some c.deref_mut.ensures.value ∙ c.in-Some.ensures.taken) c.put.ensures c.status-2.ensures c.edit-called.ensures.said
    c.edit-called.ensures.desk c.edit-called.ensures.rest c.edit-called.ensures.refused
