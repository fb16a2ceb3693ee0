use Rattle.std.proofs.Common.{◌+◌, ◌++◌, ap, append-nil, drop, sym, ◌∙◌}
use Rattle.std.proofs.lemmas.List.{drop_all, drop_more}
use Rattle.rh_lens.specs.Inner.Flows.{sentences_left}
use Rattle.rh_lens.proofs.bands.put_sentences.Goals as goal

pub loop-piece-preserved : goal.loop-piece-preserved
loop-piece-preserved g c item each =
    let pieces = c.args.pieces.now in
    let i = c.loop-piece.piece-index in
    c.put_next_sentence.ensures item each (drop (i + 1) pieces)
    ∙ (ap (λ ps. g.P.Pen.offered c.loop-piece.pen ++ sentences_left c.args.start item ps)
    (sym (drop_more pieces i _ c.loop-piece-test.true)) ∙ c.loop-piece.invariant item each)

pub returns : goal.returns
returns g c item each =
    sym (append-nil _)
    ∙ (ap (λ ps. g.P.Pen.offered c.loop-piece.pen ++ sentences_left c.args.start item ps)
    (sym (drop_all c.loop-piece.piece-index c.args.pieces.now c.loop-piece-test.false)) ∙ c.loop-piece.invariant item each)
