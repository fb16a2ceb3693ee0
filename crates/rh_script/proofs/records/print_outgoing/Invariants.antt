use Rattle.rh_script.proofs.Common.{◌≡◌, ◌++◌, take, codes, flat_map, out_item, record_line}
use Rattle.rh_script.proofs.records.print_outgoing.Given as goal

-- the records so far were written
abbrev pub invariant-loop-each : goal.invariant-loop-each
invariant-loop-each g l =
    g.P.Pen.offered l.pen
    ≡ g.P.Pen.offered l.initial.pen ++ flat_map (λ r. record_line (codes "out") (out_item r)) (take l.each-index l.records)
