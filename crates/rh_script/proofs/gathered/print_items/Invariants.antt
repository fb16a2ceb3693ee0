use Rattle.rh_script.proofs.Common.{◌≡◌, ◌++◌, take, flat_map}
use Rattle.rh_script.proofs.gathered.print_items.Given as goal

-- what waited and the items so far were written, or wait in the row
abbrev pub invariant-loop-item : goal.invariant-loop-item
invariant-loop-item g l =
    g.P.Pen.offered l.pen ++ l.row
    ≡ g.P.Pen.offered l.initial.pen ++ (l.fn.first ++ flat_map (λ item. g.T.Item.line item) (take l.item-index l.items))
