use Rattle.std.proofs.Common.{◌≡◌, ◌≤◌, ◌+◌, ◌*◌, [], length}
use Rattle.rh_pictures.specs.declared.sheet.numbers.TheConstants.{MOST_IN_SET}
use Rattle.rh_pictures.proofs.WayLemmas.{with_steps}
use Rattle.rh_pictures.proofs.sheet.ways.steps_in.Given as goal

-- the arrows of the rest are left
abbrev pub invariant-loop-last : goal.invariant-loop-last
invariant-loop-last l =
    (with_steps l.rest l.steps.items ≡ with_steps l.ways []) × (length l.steps.items + 2 * length l.rest ≤ MOST_IN_SET)

abbrev pub decreases-loop-last : goal.decreases-loop-last
decreases-loop-last l = length l.rest
