use Rattle.std.proofs.Common.{◌≡◌, ◌≤◌, ◌+◌, ◌*◌, [], length}
use Rattle.rh_pictures.specs.declared.sheet.numbers.TheConstants.{MOST_IN_SET}
use Rattle.rh_pictures.proofs.WayLemmas.{with_tasks}
use Rattle.rh_pictures.proofs.sheet.ways.tasks_in.Given as goal

-- the arrows of the rest are left
abbrev pub invariant-loop-last : goal.invariant-loop-last
invariant-loop-last l =
    (with_tasks l.rest l.tasks.items ≡ with_tasks l.ways []) × (length l.tasks.items + 2 * length l.rest ≤ MOST_IN_SET)

abbrev pub decreases-loop-last : goal.decreases-loop-last
decreases-loop-last l = length l.rest
