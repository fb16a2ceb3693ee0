use Rattle.rh_heap.proofs.SizeLaws.{segment_answer}
use Rattle.rh_heap.proofs.span.segments.segment.Goals as goal

pub returns-in-Some : goal.returns-in-Some
returns-in-Some g c = segment_answer _ _ _ _ c.in-Some.ensures
