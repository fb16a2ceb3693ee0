use Rattle.std.proofs.Common.{◌≡◌, ◌++◌, take}
use Rattle.rh_run.proofs.sight.push_free.Given as goal

-- the pages so far are appended
abbrev pub invariant-loop-i : goal.invariant-loop-i
invariant-loop-i g l = l.list.items ≡ l.initial.list.items ++ take l.i (g.S.Sited.free_of l.store)
