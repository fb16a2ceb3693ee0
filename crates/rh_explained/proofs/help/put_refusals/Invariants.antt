use Rattle.std.proofs.Common.{◌≡◌, ◌++◌, flat_map, take}
use Rattle.rh_explained.specs.Help.{refusal_line}
use Rattle.rh_explained.proofs.help.put_refusals.Given as goal

-- the lines so far were offered
abbrev pub invariant-loop-refusal : goal.invariant-loop-refusal
invariant-loop-refusal g l = g.P.Pen.offered l.pen ≡ g.P.Pen.offered l.initial.pen ++ flat_map (refusal_line l.kind) (take l.refusal-index l.refusals)
