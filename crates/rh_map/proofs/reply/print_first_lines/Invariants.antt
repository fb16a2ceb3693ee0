use Rattle.rh_map.proofs.Common.{MOST_REPLY_LINES, first_lines, lines_in, shown_lines}
use Rattle.rh_map.proofs.Left.{Left}
use Rattle.rh_map.proofs.reply.print_first_lines.Given as goal

-- the first lines of the rest are left
abbrev pub invariant-loop-left : goal.invariant-loop-left
invariant-loop-left g l =
    Left (g.P.Pen.offered l.initial.pen) (g.P.Pen.offered l.pen) (shown_lines (first_lines MOST_REPLY_LINES (lines_in l.front)))
    (shown_lines (first_lines l.left (lines_in l.rest)))

abbrev pub decreases-loop-left : goal.decreases-loop-left
decreases-loop-left g l = l.left
