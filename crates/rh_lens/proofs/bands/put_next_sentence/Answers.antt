use Rattle.std.proofs.Common.{◌++◌, ap, arith, sym}
use Rattle.rh_lens.proofs.FlowLemmas.{sentence-put, sentences-none}
use Rattle.rh_lens.proofs.bands.put_next_sentence.Goals as goal

pub returns-then-piece-eq0 : goal.returns-then-piece-eq0
returns-then-piece-eq0 g c item each rest = ap (λ t. g.P.Pen.offered c.args.pen.now ++ t)
    (sym (sentences-none c.args.start item c.args.piece.now rest c.if-piece-eq0.true))

pub returns : goal.returns
returns g c item each rest = sentence-put
    c.args.start item c.args.piece.now rest _ _ (omega arith) (c.put_sentence.ensures (item c.args.piece.now) (each c.args.piece.now))
