use Rattle.rh_scene.proofs.Common.{◌≡◌, take, total, task_pages}
use Rattle.rh_scene.proofs.pages.slots_before.Given as goal

-- the pages of the slots so far
abbrev pub invariant-loop-i : goal.invariant-loop-i
invariant-loop-i g l = l.count ≡ total task_pages (take l.i (g.S.Sight.desk l.sight).tasks)
