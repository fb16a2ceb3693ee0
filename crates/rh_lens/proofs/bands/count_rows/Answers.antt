use Rattle.std.proofs.Common.{◌+◌, ap, arith, drop, sym, ◌∙◌}
use Rattle.std.proofs.lemmas.List.{drop_all, drop_more}
use Rattle.rh_lens.specs.LensSpots.{rows_behind}
use Rattle.rh_lens.specs.Inner.Flows.{flow_spots}
use Rattle.rh_lens.proofs.bands.count_rows.Goals as goal

pub rows_with-rows-requires-clause-flow : goal.rows_with-rows-requires-clause-flow
rows_with-rows-requires-clause-flow g c =
    record { room = omega arith; scale = omega arith; taken = c.loop-piece.invariant.taken; rows = omega arith }

pub loop-piece-preserved : goal.loop-piece-preserved
loop-piece-preserved g c =
    let pieces = c.args.pieces.now in
    let i = c.loop-piece.piece-index in
    record {
      value = sym (c.rows_with-rows.ensures.value (drop (i + 1) pieces))
          ∙ (ap (λ ps. rows_behind c.loop-piece.rows (flow_spots (g.C.Contents.item c.args.contents.now) c.loop-piece.flow ps))
          (sym (drop_more pieces i _ c.loop-piece-test.true)) ∙ c.loop-piece.invariant.value);
      room = c.rows_with-rows.ensures.flow.room ∙ c.loop-piece.invariant.room;
      scale = c.rows_with-rows.ensures.flow.scale ∙ c.loop-piece.invariant.scale;
      taken = c.rows_with-rows.ensures.flow.taken;
      rows = omega arith;
      few = omega arith;
    }

pub returns-clause-value : goal.returns-clause-value
returns-clause-value g c =
    let item = g.C.Contents.item c.args.contents.now in
    ap (λ ps. rows_behind c.loop-piece.rows (flow_spots item c.loop-piece.flow ps))
    (sym (drop_all c.loop-piece.piece-index c.args.pieces.now c.loop-piece-test.false))
    ∙ (c.loop-piece.invariant.value ∙ ap (λ f. rows_behind 0 (flow_spots item f c.args.pieces.now)) c.new-flow.ensures)
