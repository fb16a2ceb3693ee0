use Rattle.vf_desk.proofs.Common.{ap, ◌∙◌}
use Rattle.vf_desk.specs.DeskForms.{name_read}
use Rattle.vf_desk.proofs.FormLaws.{a-name}
use Rattle.vf_desk.proofs.forms.name_or_none.Goals as goal

pub returns-in-Some : goal.returns-in-Some
returns-in-Some c = ap name_read (a-name c.args.bytes.now c.in-Some.name c.in-Some.ensures).0
