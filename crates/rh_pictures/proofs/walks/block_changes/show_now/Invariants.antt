use Rattle.rh_pictures.proofs.Common.{◌≡◌, ◌++◌, take, flat_map, BlockItem, block_change, item_with_anchor}
use Rattle.rh_pictures.proofs.walks.block_changes.show_now.Given as goal

-- those before the place were offered
abbrev pub invariant-loop-block : goal.invariant-loop-block
invariant-loop-block g l =
    g.P.Pen.offered l.pen ≡ g.P.Pen.offered l.initial.pen ++ flat_map g.A.Artist.change_text
    (flat_map (λ (b : BlockItem). block_change b (item_with_anchor b.anchor l.kept.blocks)) (take l.block-index l.blocks))
