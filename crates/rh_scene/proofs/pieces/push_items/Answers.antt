use Rattle.rh_scene.proofs.Common.{◌≤◌, ◌∙◌, ◌+◌, ◌-◌, ◌++◌, ap, arith, length, take, get_or, take_all, total, Hole, size_of}
use Rattle.rh_scene.proofs.Common.{segment_pieces, heap_start_of, scene_at, area_start_of, legend_of}
use Rattle.rh_scene.proofs.PieceWalks.{item-here, item-in-area, items-on}
use Rattle.rh_scene.proofs.SegmentWalks.{length-items}
use Rattle.rh_scene.proofs.pieces.push_items.Goals as goal

pub piece_of-requires : goal.piece_of-requires
piece_of-requires c =
    let r = c.requires.items in
    item-in-area c.args.drawn.now.heap r.0 r.1 c.args.items.now c.loop-item.item-index _ r.2 c.loop-item-test.true

pub loop-item-preserved : goal.loop-item-preserved
loop-item-preserved c = record {
  pieces = λ d place segments is e.
      let heap = c.args.drawn.now.heap in
      let i = c.loop-item.item-index in
      items-on (legend_of (scene_at d c.args.step.now) heap c.args.drawn.now.handle) (heap_start_of heap - area_start_of heap) (heap_start_of heap) place i
      segments c.args.items.now
      c.args.pieces.now.items c.loop-item.pieces.items c.push.new.self.items c.piece_of.result e c.loop-item-test.true
      (c.loop-item.invariant.pieces d place segments is e) c.push.ensures.items
      (c.piece_of.ensures d (place + total size_of (take i segments)) (get_or segments i (Hole 0)) is
      (item-here (heap_start_of heap) place segments c.args.items.now i _ e c.loop-item-test.true));
  few = omega (arith, c.push.ensures.len, c.loop-item.invariant.few);
}

pub returns : goal.returns
returns c = λ d place segments is e.
    let heap = c.args.drawn.now.heap in
    let long : length segments ≤ c.loop-item.item-index =
    omega (arith, c.loop-item-test.false, ap length e, length-items (heap_start_of heap + place) segments) in
    c.loop-item.invariant.pieces d place segments is e
    ∙ ap (λ z. c.args.pieces.now.items ++ segment_pieces (legend_of (scene_at d c.args.step.now) heap c.args.drawn.now.handle)
    (heap_start_of heap - area_start_of heap + place) z) (take_all c.loop-item.item-index segments long)
