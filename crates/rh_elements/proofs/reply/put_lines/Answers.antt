use Rattle.rh_elements.proofs.Common.{◌-◌, arith, lines_in}
use Rattle.rh_map.proofs.Left.{left_less, left_none}
use Rattle.rh_elements.proofs.ReplyLemmas.{feeds-next, feeds-none}
use Rattle.rh_elements.proofs.reply.put_lines.Goals as goal

pub loop-left-preserved : goal.loop-left-preserved
loop-left-preserved g c =
    left_less _ c.loop-left.invariant
    (feeds-next (lines_in c.loop-left.rest.now) (lines_in c.in-Some.behind.now) c.in-Some.line.now c.loop-left.left
    (c.loop-left.left - 1) (omega arith) c.in-Some.ensures.some)
    c.put_line.ensures

pub returns : goal.returns
returns g c =
    left_none c.loop-left.invariant (feeds-none (lines_in c.loop-left.rest.now) c.loop-left.left (omega arith))
