use Rattle.rh_tasks.proofs.Common.{◌≡◌, take, fixed}
use Rattle.rh_tasks.specs.Standing.{numbers}
use Rattle.rh_tasks.proofs.standing.push_fixed.Given as goal

-- the areas so far are listed
abbrev pub invariant-loop-number : goal.invariant-loop-number
invariant-loop-number l = numbers l.areas.items ≡ take l.number fixed
