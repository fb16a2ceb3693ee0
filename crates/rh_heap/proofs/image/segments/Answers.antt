use Rattle.rh_heap.proofs.Common.{ap, listed}
use Rattle.rh_heap.proofs.RestLaws.{all_left}
use Rattle.rh_heap.proofs.image.segments.Goals as goal

pub invariant_of-result : goal.invariant_of-result
invariant_of-result c = record { standing = (all_left _ _ c.requires c.word_in-base.ensures.value).0 }

pub returns : goal.returns
returns c = ap (listed 16) (all_left _ _ c.requires c.word_in-base.ensures.value).1
