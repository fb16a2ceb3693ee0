use Rattle.rh_elements.proofs.Common.{◌∙◌, ap, ◌++◌, codes, decimal}
use Rattle.rh_elements.proofs.FigureLemmas.{figure-sized, size_part}
use Rattle.rh_elements.proofs.RowLemmas.{added}
use Rattle.rh_elements.proofs.figures.print_figure_open.Goals as goal

pub returns : goal.returns
returns g c =
    let last = codes "\" role=\"img\">\n<title>" in
    let high = decimal c.args.height ++ last in
    let wide = decimal c.args.width ++ (codes " " ++ high) in
    let sized = added c.new-row.result (codes "<svg viewBox=\"0 0 ") wide c.text.ensures
    (added c.text.new.self (decimal c.args.width) (codes " " ++ high) c.decimal.ensures.value
    (added c.decimal.new.self (codes " ") high c.byte.ensures
    (added c.byte.new.self (decimal c.args.height) last c.decimal-2.ensures.value c.text-2.ensures))) in
    rw (← figure-sized c.args.width c.args.height c.args.title.now c.as_slice.result.now
    (c.as_slice.ensures ∙ (sized ∙ ap (λ z. z ++ size_part c.args.width c.args.height) c.new-row.ensures)))
    c.put_between.ensures
