use Rattle.std.proofs.Common.{◌++◌, ◌∙◌, ap, arith, length-take, sym}
use Rattle.rh_explained.proofs.ShownLemmas.{few_shown}
use Rattle.rh_explained.proofs.shown.put_shown_front.Goals as goal

pub slice_bounds-put_shown-end : goal.slice_bounds-put_shown-end
slice_bounds-put_shown-end g c = rw (length-take c.args.most c.args.bytes.now) (omega arith)

pub returns-else-bytes-most : goal.returns-else-bytes-most
returns-else-bytes-most g c =
    c.put_shown-else-bytes-most.ensures ∙ ap (λ z. g.P.Pen.offered c.args.pen.now ++ z) (sym (few_shown c.args.most c.args.bytes.now (omega arith)))
