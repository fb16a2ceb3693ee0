use Rattle.std.proofs.Common.{length, drop}
use Rattle.std.specs.List.{enumerate_from, flat_map}
use Rattle.rh_map.proofs.Left.{Left}
use Rattle.rh_lens.specs.LensArrows.{anchor_arrow}
use Rattle.rh_lens.specs.LensSpots.{spots}
use Rattle.rh_lens.specs.PlacedSpots.{seen_items}
use Rattle.rh_lens.proofs.anchors.print_arrows.Given as goal

-- the arrows of the anchors from this one on are left
abbrev pub invariant-loop-i : goal.invariant-loop-i
invariant-loop-i g l =
    let text = flat_map (anchor_arrow l.top l.band.foot (length l.anchors)
    (spots l.band.room l.band.scale (seen_items (g.C.Contents.item l.contents) l.pieces))) in
    Left (g.P.Pen.offered l.initial.pen) (g.P.Pen.offered l.pen) (text (enumerate_from 0 l.anchors))
    (text (enumerate_from l.i (drop l.i l.anchors)))
