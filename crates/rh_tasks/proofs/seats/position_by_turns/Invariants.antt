use Rattle.std.proofs.Common.{◌-◌, length}
use Rattle.rh_wimp.proofs.PlaceLaws.{CountsFrom}
use Rattle.rh_tasks.specs.View.{is_named}
use Rattle.rh_tasks.proofs.seats.position_by_turns.Given as goal

abbrev pub invariant-loop-at : goal.invariant-loop-at
invariant-loop-at l = CountsFrom (is_named l.name) l.all l.at

abbrev pub decreases-loop-at : goal.decreases-loop-at
decreases-loop-at l = length l.all - l.at
