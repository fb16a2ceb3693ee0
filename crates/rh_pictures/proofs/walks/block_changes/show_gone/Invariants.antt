use Rattle.rh_pictures.proofs.Common.{◌≡◌, ◌++◌, take, filter, map, not, flat_map, BlockItem, gone_line, has_anchor}
use Rattle.rh_pictures.proofs.walks.block_changes.show_gone.Given as goal

-- those before the place were offered
abbrev pub invariant-loop-block : goal.invariant-loop-block
invariant-loop-block g l =
    g.P.Pen.offered l.pen ≡ g.P.Pen.offered l.initial.pen ++ flat_map g.A.Artist.change_text
    (map (λ (b : BlockItem). gone_line b.anchor) (filter (λ (b : BlockItem). not (has_anchor b.anchor l.now)) (take l.block-index l.before)))
