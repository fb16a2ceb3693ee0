use Rattle.rh_scene.proofs.Common.{◌≡◌, ◌-◌, ◌++◌, length, take, map, holdings_of, made_holding}
use Rattle.rh_scene.proofs.kept.push_made.Given as goal

-- the areas so far are listed
abbrev pub invariant-areas : goal.invariant-areas
invariant-areas g l =
    holdings_of l.list.items
    ≡ holdings_of l.initial.list.items ++ map made_holding (take l.i (g.S.Sight.desk l.sight).made)

abbrev pub decreases-areas : goal.decreases-areas
decreases-areas g l = length (g.S.Sight.desk l.sight).made - l.i
