use Rattle.std.proofs.Common.{◌≡◌, [], ◌++◌, get_or, take}
use Rattle.rh_tasks.specs.Standing.{numbers}
use Rattle.rh_run.proofs.ShareLaws.{all_of}
use Rattle.rh_run.proofs.sight.ScriptWorldSight.page_list.Given as goal

-- behind the free pages stand those of the areas so far
abbrev pub invariant-loop-area : goal.invariant-loop-area
invariant-loop-area g l =
    l.list.items ≡ g.S.Sited.free_of l.store ++ all_of (λ id. get_or (g.S.Sited.pages_of l.store) id []) (take l.area-index (numbers l.area-items))
