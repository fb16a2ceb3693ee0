use Rattle.rh_heap.proofs.BlockLaws.{slid_bytes, slid_only}
use Rattle.rh_heap.proofs.span.words.move_bytes.Goals as goal

pub returns-clause-bytes : goal.returns-clause-bytes
returns-clause-bytes g c = slid_bytes _ _ _ _ _ _ c.slide.ensures c.requires.target

pub returns-clause-only : goal.returns-clause-only
returns-clause-only g c = slid_only _ _ _ _ _ _ c.slide.ensures
