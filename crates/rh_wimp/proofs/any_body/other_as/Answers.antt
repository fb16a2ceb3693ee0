use Rattle.rh_wimp.proofs.Common.{sym, ap, ◌∙◌, Other}
use Rattle.rh_defs.specs.AnyMessage.{read_body}
use Rattle.rh_wimp.specs.Chains.{body_as}
use Rattle.rh_wimp.proofs.any_body.other_as.Goals as goal

pub returns-then-played : goal.returns-then-played
returns-then-played c =
    c.read_other.ensures ∙ ap (λ o. read_body (Other o)) c.other_of-other.ensures
    ∙ ap (λ t. body_as t (Other (c.args.number, c.args.bytes.now))) (sym c.if-played.true)

pub returns : goal.returns
returns c = ap Other c.other_of-other.ensures ∙ ap (λ t. body_as t (Other (c.args.number, c.args.bytes.now))) (sym c.if-played.false)
