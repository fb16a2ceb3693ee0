use Rattle.std.proofs.Common.{◌+◌, ap, arith, drop, sym, ◌∙◌}
use Rattle.std.proofs.lemmas.List.{drop_all, drop_more}
use Rattle.rh_lens.specs.LensArrows.{spot_of_block}
use Rattle.rh_lens.specs.Inner.Flows.{flow_spots}
use Rattle.rh_lens.proofs.bands.spot_of_block.Goals as goal

pub spot_if-requires-clause-flow : goal.spot_if-requires-clause-flow
spot_if-requires-clause-flow g c =
    record { room = omega arith; scale = omega arith; taken = c.loop-piece.invariant.taken; rows = omega arith }

pub returns-in-Some-clause-some : goal.returns-in-Some-clause-some
returns-in-Some-clause-some g c =
    let pieces = c.args.pieces.now in
    let i = c.loop-piece.piece-index in
    let item = g.C.Contents.item c.args.contents.now in (
      _,
      ap (λ f. spot_of_block c.args.anchor (flow_spots item f pieces)) (sym c.new-flow.ensures)
          ∙ (sym c.loop-piece.invariant.value
          ∙ (ap (λ ps. spot_of_block c.args.anchor (flow_spots item c.loop-piece.flow ps))
          (drop_more pieces i _ c.loop-piece-test.true) ∙ c.in-Some.ensures.some (drop (i + 1) pieces))),
    )

pub loop-piece-preserved : goal.loop-piece-preserved
loop-piece-preserved g c =
    let pieces = c.args.pieces.now in
    let i = c.loop-piece.piece-index in
    record {
      value = sym (c.in_default.ensures.none (drop (i + 1) pieces))
          ∙ (ap (λ ps. spot_of_block c.args.anchor (flow_spots (g.C.Contents.item c.args.contents.now) c.loop-piece.flow ps))
          (sym (drop_more pieces i _ c.loop-piece-test.true)) ∙ c.loop-piece.invariant.value);
      room = c.spot_if.ensures.flow.room ∙ c.loop-piece.invariant.room;
      scale = c.spot_if.ensures.flow.scale ∙ c.loop-piece.invariant.scale;
      taken = c.spot_if.ensures.flow.taken;
      rows = omega arith;
    }

pub returns-clause-none : goal.returns-clause-none
returns-clause-none g c =
    let item = g.C.Contents.item c.args.contents.now in
    ap (λ f. spot_of_block c.args.anchor (flow_spots item f c.args.pieces.now)) (sym c.new-flow.ensures)
    ∙ (sym c.loop-piece.invariant.value
    ∙ ap (λ ps. spot_of_block c.args.anchor (flow_spots item c.loop-piece.flow ps))
    (drop_all c.loop-piece.piece-index c.args.pieces.now c.loop-piece-test.false))
