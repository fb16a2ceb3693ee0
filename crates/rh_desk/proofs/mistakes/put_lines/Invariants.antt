use Rattle.std.proofs.Common.{◌≡◌, ◌++◌, length, false}
use Rattle.rh_desk.specs.Hints.{text_lines, told_lines}
use Rattle.rh_desk.proofs.mistakes.put_lines.Given as goal

-- what was offered, and what is told of the rest, is all that is told
abbrev pub invariant-lines : goal.invariant-lines
invariant-lines g l =
    g.P.Pen.offered l.pen ++ told_lines l.for_script l.was_empty (text_lines l.rest)
    ≡ g.P.Pen.offered l.initial.pen ++ told_lines l.for_script false (text_lines l.text)

abbrev pub decreases-lines : goal.decreases-lines
decreases-lines g l = length l.rest
