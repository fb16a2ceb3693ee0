use Rattle.rh_script.proofs.Common.{◌++◌, ◌∙◌, ap, arith, codes, tests, flat_map, take_all, record_line, in_item}
use Rattle.rh_script.proofs.PrintLemmas.{some_records}
use Rattle.rh_script.proofs.records.print_incoming.Goals as goal

pub returns : goal.returns
returns g c =
    let records = c.args.records.now in
    c.loop-each.invariant ∙ ap (λ z. g.P.Pen.offered c.args.pen.now ++ z)
    (ap (flat_map (λ r. record_line (codes "in") (in_item r))) (take_all c.loop-each.each-index records c.loop-each-test.false)
    ∙ some_records in_item (codes "in") records (grind (arith, tests)))
