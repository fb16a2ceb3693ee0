use Rattle.std.proofs.Common.{◌∙◌, arith}
use Rattle.rh_heap.proofs.StretchLaws.{word_below}
use Rattle.rh_heap.proofs.span.claim.put_zeros.Goals as goal

pub returns-clause-size : goal.returns-clause-size
returns-clause-size g c = word_below c.clear.ensures.only.outside _ (omega arith) ∙ c.write.ensures.value
