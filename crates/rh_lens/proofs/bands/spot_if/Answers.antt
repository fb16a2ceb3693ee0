use Rattle.std.proofs.Common.{ap, arith, sym, ◌∙◌}
use Rattle.rh_figure.specs.declared.piece.Piece.{Piece}
use Rattle.rh_lens.specs.LensArrows.{is_block_of, spot_of_block}
use Rattle.rh_lens.specs.PlacedSpots.{part_spot}
use Rattle.rh_lens.specs.Inner.Flows.{flow_spots}
use Rattle.rh_lens.proofs.FlowLemmas.{flow-next, flow-none, spot-found, spot-passed}
use Rattle.rh_lens.proofs.bands.spot_if.Goals as goal

pub returns-then-piece-eq0-clause-none : goal.returns-then-piece-eq0-clause-none
returns-then-piece-eq0-clause-none g c rest = ap (spot_of_block c.args.anchor)
    (flow-none (g.C.Contents.item c.args.contents.now) c.args.flow.now c.args.piece.now rest c.if-piece-eq0.true)

pub returns-then-is_block_of-clause-some : goal.returns-then-is_block_of-clause-some
returns-then-is_block_of-clause-some g c rest =
    let item = g.C.Contents.item c.args.contents.now in
    let p = c.args.piece.now in
    let q = part_spot (item p) c.take-spot.result in
    ap (spot_of_block c.args.anchor) (flow-next item c.args.flow.now c.take-spot.new.self p rest c.take-spot.result (omega arith)
    (c.take-spot.ensures.spot (item p) c.tell.ensures) c.take-spot.ensures.rest)
    ∙ spot-found c.args.anchor q (flow_spots item c.take-spot.new.self rest)
    (ap (λ (z : Piece). is_block_of c.args.anchor z.kind) c.tell.ensures.piece ∙ (sym c.is_block_of.ensures ∙ c.if-is_block_of.true))

pub returns-else-is_block_of-clause-none : goal.returns-else-is_block_of-clause-none
returns-else-is_block_of-clause-none g c rest =
    let item = g.C.Contents.item c.args.contents.now in
    let p = c.args.piece.now in
    let q = part_spot (item p) c.take-spot.result in
    ap (spot_of_block c.args.anchor) (flow-next item c.args.flow.now c.take-spot.new.self p rest c.take-spot.result (omega arith)
    (c.take-spot.ensures.spot (item p) c.tell.ensures) c.take-spot.ensures.rest)
    ∙ spot-passed c.args.anchor q (flow_spots item c.take-spot.new.self rest)
    (ap (λ (z : Piece). is_block_of c.args.anchor z.kind) c.tell.ensures.piece ∙ (sym c.is_block_of.ensures ∙ c.if-is_block_of.false))
