use Rattle.std.proofs.Common.{◌≡◌, ◌++◌, flat_map, take}
use Rattle.rh_explained.specs.Help.{word_line}
use Rattle.rh_explained.proofs.help.put_words.Given as goal

-- the lines so far were offered
abbrev pub invariant-loop-kind : goal.invariant-loop-kind
invariant-loop-kind g l = g.P.Pen.offered l.pen ≡ g.P.Pen.offered l.initial.pen ++ flat_map word_line (take l.kind-index l.kinds)
