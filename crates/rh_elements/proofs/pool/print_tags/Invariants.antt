use Rattle.rh_elements.proofs.Common.{◌≡◌, ◌++◌, take, flat_map}
use Rattle.rh_sheet.specs.Pool.{tag_text}
use Rattle.rh_elements.proofs.pool.print_tags.Given as goal

-- the tags so far were written
abbrev pub invariant-loop-page : goal.invariant-loop-page
invariant-loop-page g l =
    g.P.Pen.offered l.pen ≡ g.P.Pen.offered l.initial.pen ++ flat_map (tag_text l.tag) (take l.page-index l.pages)
