use Rattle.vf_desk.proofs.Common.{◌≡◌, take, map, filled_from}
use Rattle.vf_desk.proofs.lists.fill.Given as goal

-- the items so far were put into the slice
abbrev pub invariant-loop-i : goal.invariant-loop-i
invariant-loop-i g l = l.to ≡ filled_from l.at (map g.B.Listed.shown (take l.i l.items)) l.initial.to
