use Rattle.vf_desk.proofs.Common.{ap}
use Rattle.vf_desk.specs.DeskForms.{anchor_in}
use Rattle.vf_desk.proofs.FormLaws.{an-anchor}
use Rattle.vf_desk.proofs.forms.anchor_or_none.Goals as goal

pub returns-in-Some : goal.returns-in-Some
returns-in-Some c = ap anchor_in (an-anchor c.args.anchor c.in-Some.anchor c.in-Some.ensures).0

pub returns-in-None : goal.returns-in-None
returns-in-None c = c.in-None.ensures
