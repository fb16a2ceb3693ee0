use Rattle.rh_tasks.proofs.Common.{◌≡◌, ◌++◌, take, map, MadeArea}
use Rattle.rh_tasks.proofs.standing.push_made.Given as goal

-- the areas so far are listed
abbrev pub invariant-loop-area : goal.invariant-loop-area
invariant-loop-area l = l.areas.items ≡ l.initial.areas.items ++ map (λ (a : MadeArea). a.area) (take l.area-index l.made.items)
