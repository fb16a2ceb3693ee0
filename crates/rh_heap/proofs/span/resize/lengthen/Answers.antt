use Rattle.std.proofs.Common.{◌∙◌, arith}
use Rattle.rh_heap.proofs.StretchLaws.{word_below}
use Rattle.rh_heap.proofs.BlockLaws.{longer_part}
use Rattle.rh_heap.proofs.span.resize.lengthen.Goals as goal

pub returns-clause-size : goal.returns-clause-size
returns-clause-size g c = word_below c.clear.ensures.only.outside _ (omega arith) ∙ c.write.ensures.value

pub returns-clause-block : goal.returns-clause-block
returns-clause-block g c = longer_part _ _ _ c.args.span.at c.args.spot.place c.args.spot.size c.args.size c.requires.least c.requires.longer
    c.write.ensures.only.outside c.clear.ensures.only.outside c.clear.ensures.zeros
