use Rattle.rh_elements.proofs.Common.{◌++◌, map, refl, ap, ◌∙◌, cut}
use Rattle.rh_figure.specs.Map.{shown_byte}
use Rattle.rh_figure.specs.declared.limits.TheConstants.{LINE_COLUMNS}
use Rattle.rh_elements.proofs.ListLemmas.{shown-cut}
use Rattle.rh_elements.proofs.steps.command_row.Goals as goal

pub returns-clause-value : goal.returns-clause-value
returns-clause-value c =
    c.add_shown.ensures.value
    ∙ (ap (λ r. r ++ map shown_byte c.as_slice.result.now) c.new-row.ensures
    ∙ (ap (map shown_byte) (c.as_slice.ensures ∙ (c.add_cut.ensures.value ∙ ap (λ r. r ++ cut LINE_COLUMNS c.args.line.now) c.new-front.ensures))
    ∙ shown-cut shown_byte LINE_COLUMNS c.args.line.now refl))
