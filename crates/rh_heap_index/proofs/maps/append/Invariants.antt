use Rattle.rh_heap_index.specs.Maps.{AreStale}
use Rattle.rh_heap_index.proofs.maps.append.Given as goal

abbrev pub invariant-loop-i : goal.invariant-loop-i
invariant-loop-i l = AreStale l.maps.items
