use Rattle.rh_pictures.proofs.Common.{drop, Left, ticks_text}
use Rattle.rh_pictures.proofs.sheet.slots.print_ticks.Given as goal

-- the blocks from the place on are left
abbrev pub invariant-loop-block : goal.invariant-loop-block
invariant-loop-block g l =
    Left (g.P.Pen.offered l.initial.pen) (g.P.Pen.offered l.pen) (ticks_text l.y l.blocks) (ticks_text l.y (drop l.block-index l.blocks))
