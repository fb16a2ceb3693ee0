use Rattle.rh_elements.proofs.Common.{◌-◌, lines_in, escape, behind_feeds}
use Rattle.rh_figure.specs.declared.limits.TheConstants.{MOST_REPLY_LINES}
use Rattle.rh_map.specs.Replies.{first_lines}
use Rattle.rh_map.proofs.Left.{Left}
use Rattle.rh_elements.proofs.reply.put_lines.Given as goal

-- the first lines of the rest are left
abbrev pub invariant-loop-left : goal.invariant-loop-left
invariant-loop-left g l =
    Left (g.P.Pen.offered l.initial.pen) (g.P.Pen.offered l.pen)
    (escape (behind_feeds (first_lines (MOST_REPLY_LINES - 1) (lines_in l.front))))
    (escape (behind_feeds (first_lines l.left (lines_in l.rest))))

abbrev pub decreases-loop-left : goal.decreases-loop-left
decreases-loop-left g l = l.left
