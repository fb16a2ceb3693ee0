use Rattle.rh_tasks.proofs.Common.{◌≡◌, take, map}
use Rattle.rh_tasks.specs.WorldItems.{placed_item}
use Rattle.rh_tasks.proofs.listing.segment_items.Given as goal

-- the segments so far are listed
abbrev pub invariant-loop-segment : goal.invariant-loop-segment
invariant-loop-segment l = l.items.items ≡ map (placed_item l.start) (take l.segment-index l.segments)
