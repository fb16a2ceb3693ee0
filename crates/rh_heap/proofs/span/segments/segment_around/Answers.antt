use Rattle.rh_heap.proofs.WalkLaws.{reached_start, behind_hole}
use Rattle.rh_heap.proofs.span.segments.segment_around.Goals as goal

pub used_around-requires-clause-reached : goal.used_around-requires-clause-reached
used_around-requires-clause-reached g c = reached_start _ _

pub used_around-requires-2-clause-reached : goal.used_around-requires-2-clause-reached
used_around-requires-2-clause-reached g c = behind_hole _ _ _ c.in-Some.ensures.met
