use Rattle.rh_scene.proofs.Common.{◌≡◌, ◌∙◌, ◌++◌, ap, arith, BlockItem, item_pieces, scene_at}
use Rattle.rh_defs.specs.Slot.{flex_weight}
use Rattle.rh_figure.specs.Layout.{is_fresh_flex}
use Rattle.rh_scene.proofs.PieceWalks.{blocks-step, weights-more}
use Rattle.rh_scene.proofs.pieces.push_blocks.Goals as goal

pub loop-block-preserved : goal.loop-block-preserved
loop-block-preserved c = record {
  pieces = λ d.
      let x = scene_at d c.args.step.now in
      let i = c.loop-block.block-index in
      let b = c.block-item.result in
      let v = c.block.view_is in
      let sized : c.flex_weight-size.result ≡ flex_weight b.size = c.flex_weight-size.ensures ∙ ap (λ (z : BlockItem). flex_weight z.size) v in
      let fresh : c.is_fresh_flex.result ≡ is_fresh_flex x c.args.handle b.anchor b.size =
      c.is_fresh_flex.ensures d ∙ ap (λ n. is_fresh_flex x c.args.handle b.anchor n) (ap (λ (z : BlockItem). z.size) v) in
      let anchor : c.from.result ≡ b.anchor = c.from.ensures ∙ ap (λ (z : BlockItem). z.anchor) v in
      blocks-step x c.args.handle c.loop-block.end i c.args.blocks.now b c.from.result _ c.flex_weight-size.result c.is_fresh_flex.result
      c.loop-block.pieces.items c.push.new.self.items
      (c.args.pieces.now.items ++ item_pieces x c.args.handle c.args.at c.args.blocks.now) c.loop-block-test.true c.block-item.is c.push.ensures.items anchor
      (ap (λ (z : BlockItem). z.size) v) sized fresh (c.loop-block.invariant.pieces d);
  end =
      let sized : c.flex_weight-size.result ≡ flex_weight c.block-item.result.size =
      c.flex_weight-size.ensures ∙ ap (λ (z : BlockItem). flex_weight z.size) c.block.view_is in
      let more = weights-more c.loop-block.block-index c.args.blocks.now c.block-item.result c.loop-block-test.true c.block-item.is in
      let before = c.loop-block.invariant.end in
      omega arith;
  few = omega (arith, c.push.ensures.len, c.loop-block.invariant.few);
}
