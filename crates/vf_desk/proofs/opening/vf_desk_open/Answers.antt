use Rattle.std.proofs.Common.{Some, ap, subst, ◌∙◌}
use Rattle.vf_desk.specs.Opening.{Opens}
use Rattle.vf_desk.proofs.SeenLaws.{held-by}
use Rattle.vf_desk.proofs.opening.vf_desk_open.Goals as goal

pub returns-in_default : goal.returns-in_default
returns-in_default c = subst (λ h. Opens c.args.pages c.args.first_handle c.args.first_ref h c.open_new.new.desk.handle.open_desk c.open_new.result)
    (c.in_default.ensures.left ∙ c.in_default.ensures.taken) c.open_new.ensures

pub returns : goal.returns
returns c = held-by (ap Some c.deref_mut.ensures.value ∙ c.in-Some.ensures.taken) c.put.ensures
    (λ a b. Opens c.args.pages c.args.first_handle c.args.first_ref a b c.open-status.result) c.open-status.ensures
