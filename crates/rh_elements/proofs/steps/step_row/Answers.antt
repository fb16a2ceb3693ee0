use Rattle.rh_elements.proofs.Common.{◌+◌, [], ◌∷◌, ◌++◌, ap, ◌∙◌, codes, decimal}
use Rattle.rh_sheet.specs.Markup.{step_link}
use Rattle.rh_sheet.specs.SheetSteps.{back_link}
use Rattle.rh_elements.proofs.ListLemmas.{seven-parts}
use Rattle.rh_elements.proofs.steps.step_row.Goals as goal

pub returns : goal.returns
returns c =
    c.text-3.ensures
    ∙ (ap (λ r. r ++ codes " <a href=\"#all\">all</a></nav>\n") (c.add_step_link.ensures.value
    ∙ ap (λ r. r ++ step_link (c.args.n + 1) (codes "&#9654;")) (c.byte.ensures
    ∙ ap (λ r. r ++ 32 ∷ []) (c.add_back_link.ensures.value
    ∙ ap (λ r. r ++ back_link c.args.n) (c.text-2.ensures
    ∙ ap (λ r. r ++ codes "\">\n<div class=\"says\">\n<nav>") (c.decimal.ensures.value
    ∙ ap (λ r. r ++ decimal c.args.n) (c.text.ensures
    ∙ ap (λ r. r ++ codes "<section id=\"d") c.new-row.ensures))))))
    ∙ seven-parts (codes "<section id=\"d") (decimal c.args.n) (codes "\">\n<div class=\"says\">\n<nav>") (back_link c.args.n)
    (32 ∷ []) (step_link (c.args.n + 1) (codes "&#9654;")) (codes " <a href=\"#all\">all</a></nav>\n"))
