use Rattle.std.proofs.Common.{◌+◌, ◌++◌, ap, append-nil, arith, drop, sym, ◌∙◌}
use Rattle.std.proofs.lemmas.List.{drop_all, drop_more}
use Rattle.rh_lens.specs.Inner.Flows.{band_rest, flow_spots}
use Rattle.rh_lens.proofs.bands.print_band.Goals as goal

pub print_next-requires-clause-flow : goal.print_next-requires-clause-flow
print_next-requires-clause-flow g c =
    let band = c.requires.band in
    record {
      room = omega (arith, band.room);
      scale = omega (arith, band.scale);
      taken = c.loop-piece.invariant.taken;
      rows = omega arith;
    }

pub loop-piece-preserved : goal.loop-piece-preserved
loop-piece-preserved g c =
    let pieces = c.args.pieces.now in
    let i = c.loop-piece.piece-index in
    record {
      text = c.print_next.ensures.text (drop (i + 1) pieces)
          ∙ (ap (λ ps. g.P.Pen.offered c.loop-piece.pen
          ++ band_rest c.args.band.now (flow_spots (g.C.Contents.item c.args.contents.now) c.loop-piece.flow ps))
          (sym (drop_more pieces i _ c.loop-piece-test.true)) ∙ c.loop-piece.invariant.text);
      room = c.print_next.ensures.flow.room ∙ c.loop-piece.invariant.room;
      scale = c.print_next.ensures.flow.scale ∙ c.loop-piece.invariant.scale;
      taken = c.print_next.ensures.flow.taken;
      rows = omega arith;
    }

pub returns : goal.returns
returns g c =
    let item = g.C.Contents.item c.args.contents.now in
    let band = c.args.band.now in
    sym (append-nil _)
    ∙ (ap (λ ps. g.P.Pen.offered c.loop-piece.pen ++ band_rest band (flow_spots item c.loop-piece.flow ps))
    (sym (drop_all c.loop-piece.piece-index c.args.pieces.now c.loop-piece-test.false))
    ∙ (c.loop-piece.invariant.text
    ∙ ap (λ f. g.P.Pen.offered c.args.pen.now ++ band_rest band (flow_spots item f c.args.pieces.now)) c.new-flow.ensures))
