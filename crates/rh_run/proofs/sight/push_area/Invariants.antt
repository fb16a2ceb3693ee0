use Rattle.std.proofs.Common.{◌≡◌, [], ◌++◌, get_or, take}
use Rattle.rh_run.proofs.sight.push_area.Given as goal

-- the pages so far are appended
abbrev pub invariant-loop-i : goal.invariant-loop-i
invariant-loop-i g l = l.list.items ≡ l.initial.list.items ++ take l.i (get_or (g.S.Sited.pages_of l.store) l.area.0 [])
