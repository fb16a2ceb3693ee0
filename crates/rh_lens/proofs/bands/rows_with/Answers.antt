use Rattle.std.proofs.Common.{ap, arith}
use Rattle.rh_lens.specs.LensSpots.{rows_behind}
use Rattle.rh_lens.proofs.FlowLemmas.{flow-next, flow-none, rows-with}
use Rattle.rh_lens.proofs.bands.rows_with.Goals as goal

pub returns-then-piece-eq0-clause-value : goal.returns-then-piece-eq0-clause-value
returns-then-piece-eq0-clause-value g c rest = ap (rows_behind c.args.rows)
    (flow-none (g.C.Contents.item c.args.contents.now) c.args.flow.now c.args.piece.now rest c.if-piece-eq0.true)

pub returns-clause-value : goal.returns-clause-value
returns-clause-value g c rest =
    let item = g.C.Contents.item c.args.contents.now in
    rows-with item c.args.flow.now c.take.new.self c.args.piece.now rest c.take.result c.args.rows
    (flow-next item c.args.flow.now c.take.new.self c.args.piece.now rest c.take.result (omega arith)
    (c.take.ensures.spot (item c.args.piece.now) c.tell.ensures) c.take.ensures.rest)
