use Rattle.std.proofs.Common.{◌+◌, ◌++◌, ap, arith, sym, ◌∙◌}
use Rattle.rh_elements.specs.Tints.{tint_class}
use Rattle.rh_lens.specs.LensParts.{part_text}
use Rattle.rh_lens.specs.PlacedSpots.{part_spot}
use Rattle.rh_lens.specs.Inner.Flows.{band_rest}
use Rattle.rh_lens.proofs.FlowLemmas.{flow-next, flow-none, part-written}
use Rattle.rh_lens.proofs.bands.print_next.Goals as goal

pub returns-then-piece-eq0-clause-text : goal.returns-then-piece-eq0-clause-text
returns-then-piece-eq0-clause-text g c rest =
    ap (λ qs. g.P.Pen.offered c.args.pen.now ++ band_rest c.args.band.now qs)
    (sym (flow-none (g.C.Contents.item c.args.contents.now) c.args.flow.now c.args.piece.now rest c.if-piece-eq0.true))

pub returns-clause-text : goal.returns-clause-text
returns-clause-text g c rest =
    let item = g.C.Contents.item c.args.contents.now in
    let b = c.args.band.now in
    let p = c.args.piece.now in
    let q = c.take-spot.result in
    let next = flow-next item c.args.flow.now c.take-spot.new.self p rest q (omega arith) (c.take-spot.ensures.spot (item p) c.tell.ensures)
    c.take-spot.ensures.rest in
    part-written item b c.args.flow.now c.take-spot.new.self p rest q _ _ next
    (c.print_part.ensures (item p) c.tell.ensures ∙ ap (λ y. g.P.Pen.offered c.args.pen.now
    ++ part_text b.start (tint_class b.tint) b.room b.scale (b.left + q.x) y (part_spot (item p) q)) c.spot_y-y.ensures.value)
