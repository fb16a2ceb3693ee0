use Rattle.std.proofs.Common.{sym, ◌∙◌}
use Rattle.vf_flex.proofs.WideStarts.{given_from}
use Rattle.vf_flex.proofs.wide.vf_flex_wide_budge.Goals as goal

pub returns-in-0-clause-place : goal.returns-in-0-clause-place
returns-in-0-clause-place c =
    λ ok. c.give_number.ensures.number ∙ given_from _ _ _ _ _ c.budge.ensures.answer (sym c.give_number.ensures.status ∙ ok)
