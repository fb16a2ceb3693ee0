use Rattle.rh_defs.proofs.Common.{sym, ap, ◌∙◌, ◌==◌}
use Rattle.std.proofs.lemmas.List.Quantifiers.{position-Some}
use Rattle.rh_defs.specs.OtherBodies.{ends_at}
use Rattle.rh_defs.proofs.other_body.is_name.Goals as goal

pub ends_at-requires-clause-within : goal.ends_at-requires-clause-within
ends_at-requires-clause-within c = (position-Some (λ x. x == 0) c.args.bytes.now c.in-Some.n 0 (sym c.first_zero.ensures ∙ c.in-Some.is)).0

pub returns-in_default : goal.returns-in_default
returns-in_default c = ap (ends_at c.args.bytes.now) (sym c.in_default.is ∙ c.first_zero.ensures)

pub returns : goal.returns
returns c = c.ends_at.ensures ∙ ap (ends_at c.args.bytes.now) (sym c.in-Some.is ∙ c.first_zero.ensures)
