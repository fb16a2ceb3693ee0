use Rattle.std.proofs.Common.{◌-◌}
use Rattle.rh_script.specs.NamedSlots.{heap_of_named}
use Rattle.vf_desk.proofs.SegmentLaws.{Walked}
use Rattle.vf_desk.proofs.lists.list_segments.Given as goal

-- the segments below the place were put into the slice
abbrev pub invariant-places : goal.invariant-places
invariant-places l = Walked (heap_of_named l.name l.world.desk).segments l.place l.count l.initial.to l.to

abbrev pub decreases-places : goal.decreases-places
decreases-places l = (heap_of_named l.name l.world.desk).end - l.place
