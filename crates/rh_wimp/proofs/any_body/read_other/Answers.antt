use Rattle.rh_wimp.proofs.Common.{◌≡◌, sym, ap, ◌∙◌, unwrap_or, Other}
use Rattle.rh_defs.specs.AnyMessage.{kind_read}
use Rattle.rh_wimp.proofs.any_body.read_other.Goals as goal
use Rattle.rh_wimp.proofs.any_body.read_other.Goals.{After-kind_read}

spelled : (c : After-kind_read) → c.kind_read.result ≡ kind_read c.args.other.0 c.args.other.1
spelled c =
    c.kind_read.ensures ∙ ap (λ a. kind_read a c.as_slice.result.now) c.action.ensures
    ∙ ap (kind_read c.args.other.0) (c.as_slice.ensures.value ∙ c.data.ensures.value)

pub returns-in-Some : goal.returns-in-Some
returns-in-Some c =
    ap (λ v. unwrap_or v (Other c.args.other)) (sym c.in-Some.is ∙ spelled (goal.at.returns-in-Some c).After-kind_read)

pub returns-in-None : goal.returns-in-None
returns-in-None c =
    ap (λ v. unwrap_or v (Other c.args.other)) (sym c.in-None.is ∙ spelled (goal.at.returns-in-None c).After-kind_read)
