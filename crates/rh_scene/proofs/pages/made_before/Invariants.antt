use Rattle.rh_scene.proofs.Common.{◌≡◌, take, total, Made}
use Rattle.rh_scene.proofs.pages.made_before.Given as goal

-- the pages of the areas so far
abbrev pub invariant-loop-i : goal.invariant-loop-i
invariant-loop-i g l = l.count ≡ total (λ (m : Made). m.pages) (take l.i (g.S.Sight.desk l.sight).made)
