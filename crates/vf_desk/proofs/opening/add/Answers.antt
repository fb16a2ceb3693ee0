use Rattle.std.proofs.Common.{Some, ap, subst, ◌∙◌}
use Rattle.vf_desk.specs.FileRows.{given_bytes}
use Rattle.vf_desk.specs.Opening.{Adds}
use Rattle.vf_desk.proofs.SeenLaws.{held-by}
use Rattle.vf_desk.proofs.opening.add.Goals as goal

pub returns-in_default : goal.returns-in_default
returns-in_default c = subst (λ h. Adds c.args.name.now (given_bytes c.args.file.now) h c.first_file.new.desk.handle.open_desk c.first_file.result)
    (c.in_default.ensures.left ∙ c.in_default.ensures.taken) c.first_file.ensures

pub returns : goal.returns
returns c = held-by (ap Some c.deref_mut.ensures.value ∙ c.in-Some.ensures.taken) c.put.ensures
    (λ a b. Adds c.args.name.now (given_bytes c.args.file.now) a b c.add_file-status.result) c.add_file-status.ensures
