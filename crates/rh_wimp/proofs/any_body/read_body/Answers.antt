use Rattle.rh_wimp.proofs.Common.{sym, ap, ◌∙◌}
use Rattle.rh_defs.specs.AnyMessage.{read_body}
use Rattle.rh_wimp.proofs.AnyLaws.{read-same}
use Rattle.rh_wimp.proofs.any_body.read_body.Goals as goal

pub returns-in-Other : goal.returns-in-Other
returns-in-Other c = c.read_other.ensures ∙ ap read_body (sym c.in-Other.is)

pub returns-in_default : goal.returns-in_default
returns-in_default c = sym (read-same c.args.body c.in_default.not-Other)
