use Rattle.vf_desk.proofs.Common.{refl}
use Rattle.vf_desk.proofs.FormLaws.{a-name}
use Rattle.vf_desk.proofs.forms.task.Goals as goal

pub returns : goal.returns
returns c =
    let name_is = a-name c.args.name.now c.in-Some-name_of.name c.in-Some-name_of.ensures in
    rw (← c.in-Some.ensures) (rw name_is.0 refl)
