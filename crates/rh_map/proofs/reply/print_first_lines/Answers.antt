use Rattle.rh_map.proofs.Common.{◌-◌, arith, lines_in}
use Rattle.rh_map.proofs.Left.{left_less}
use Rattle.rh_map.proofs.SeamLemmas.{first-next}
use Rattle.rh_map.proofs.reply.print_first_lines.Goals as goal

pub loop-left-preserved : goal.loop-left-preserved
loop-left-preserved g c =
    left_less _ c.loop-left.invariant
    (first-next (lines_in c.loop-left.rest.now) (lines_in c.in-Some.behind.now) c.in-Some.line.now c.loop-left.left
    (c.loop-left.left - 1) (omega arith) c.in-Some.ensures.some)
    c.print_reply_line.ensures
