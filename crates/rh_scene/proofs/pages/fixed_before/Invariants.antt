use Rattle.rh_scene.proofs.Common.{◌≡◌, take, map, enumerate_from, total, Holding, fixed_holding}
use Rattle.rh_scene.proofs.pages.fixed_before.Given as goal

-- the pages of the areas so far
abbrev pub invariant-loop-below : goal.invariant-loop-below
invariant-loop-below g l =
    let d = g.S.Sight.desk l.sight in
    l.count ≡ total (λ (h : Holding). h.1) (take l.below (map (fixed_holding d) (enumerate_from 0 d.areas)))
