use Rattle.std.proofs.Common.{refl}
use Rattle.rh_heap.specs.HeapStarts.{a_hole}
use Rattle.rh_heap.proofs.span.starts.link_below.Goals as goal

pub returns-in-Some : goal.returns-in-Some
returns-in-Some c = a_hole _ refl c.in-Some.ensures
