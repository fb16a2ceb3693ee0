use Rattle.rh_scene.proofs.Common.{◌≡◌, take, map, enumerate_from, fixed_holding, holdings_of}
use Rattle.rh_scene.proofs.kept.push_holdings.Given as goal

-- the areas so far are listed
abbrev pub invariant-loop-number : goal.invariant-loop-number
invariant-loop-number g l =
    let d = g.S.Sight.desk l.sight in
    holdings_of l.list.items ≡ map (fixed_holding d) (take l.number (enumerate_from 0 d.areas))
