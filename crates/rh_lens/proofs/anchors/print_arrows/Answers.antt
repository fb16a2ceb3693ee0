use Rattle.std.proofs.Common.{◌≤◌, ◌<◌, arith, length}
use Rattle.rh_map.proofs.Left.{left_less, left_none}
use Rattle.rh_lens.specs.LensArrows.{anchor_arrow}
use Rattle.rh_lens.specs.LensSpots.{spots}
use Rattle.rh_lens.specs.PlacedSpots.{seen_items}
use Rattle.rh_lens.proofs.LoopLemmas.{numbered-at, numbered-none}
use Rattle.rh_lens.proofs.anchors.print_arrows.Goals as goal

pub loop-i-preserved : goal.loop-i-preserved
loop-i-preserved g c =
    let low : c.loop-i.i < length c.args.anchors.now = omega arith in
    let b = c.args.band.now in
    left_less _ c.loop-i.invariant
    (numbered-at (anchor_arrow c.args.top b.foot (length c.args.anchors.now)
    (spots b.room b.scale (seen_items (g.C.Contents.item c.args.contents.now) c.args.pieces.now))) c.args.anchors.now c.loop-i.i _ low)
    c.print_anchor_arrow.ensures

pub returns : goal.returns
returns g c =
    let past : length c.args.anchors.now ≤ c.loop-i.i = omega arith in
    let b = c.args.band.now in
    left_none c.loop-i.invariant
    (numbered-none (anchor_arrow c.args.top b.foot (length c.args.anchors.now)
    (spots b.room b.scale (seen_items (g.C.Contents.item c.args.contents.now) c.args.pieces.now))) c.args.anchors.now c.loop-i.i past)
