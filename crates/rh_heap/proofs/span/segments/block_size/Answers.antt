use Rattle.rh_heap.proofs.SizeLaws.{size_answer}
use Rattle.rh_heap.proofs.span.segments.block_size.Goals as goal

pub returns-in-Some : goal.returns-in-Some
returns-in-Some g c = size_answer _ _ _ _ _ c.in-Some.ensures
