use Rattle.rh_elements.proofs.Common.{◌++◌, codes, decimal}
use Rattle.rh_elements.proofs.RowLemmas.{added}
use Rattle.rh_elements.proofs.links.add_step_link.Goals as goal

pub returns-clause-value : goal.returns-clause-value
returns-clause-value c =
    let inside = c.args.inside.now in
    let number = decimal c.args.n in
    added c.args.row.now (codes "<a href=\"#d") (number ++ (codes "\">" ++ (inside ++ codes "</a>"))) c.text.ensures
    (added c.text.new.self number (codes "\">" ++ (inside ++ codes "</a>")) c.decimal.ensures.value
    (added c.decimal.new.self (codes "\">") (inside ++ codes "</a>") c.text-2.ensures
    (added c.text-2.new.self inside (codes "</a>") c.text-3.ensures c.text-4.ensures)))
