use Rattle.rh_elements.proofs.Common.{◌≡◌, ◌++◌, take, flat_map}
use Rattle.rh_sheet.specs.Pool.{square_way}
use Rattle.rh_elements.proofs.pool.print_ways.Given as goal

-- the ways so far were written
abbrev pub invariant-loop-page : goal.invariant-loop-page
invariant-loop-page g l =
    g.P.Pen.offered l.pen ≡ g.P.Pen.offered l.initial.pen ++ flat_map square_way (take l.page-index l.pages)
