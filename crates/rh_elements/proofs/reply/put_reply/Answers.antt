use Rattle.rh_elements.proofs.Common.{cut, lines_in, escape, behind_feeds}
use Rattle.rh_figure.specs.declared.limits.TheConstants.{REPLY_COLUMNS}
use Rattle.rh_map.specs.Replies.{first_lines, more_behind}
use Rattle.rh_elements.proofs.ReplyLemmas.{joined-some}
use Rattle.rh_elements.proofs.RowLemmas.{added}
use Rattle.rh_elements.proofs.WriteLemmas.{offered_as}
use Rattle.rh_elements.proofs.reply.put_reply.Goals as goal

pub returns : goal.returns
returns g c =
    let first = escape (cut REPLY_COLUMNS c.in-Some.line.now) in
    let next = escape (behind_feeds (first_lines 13 (lines_in c.in-Some.behind.now))) in
    let more = escape (behind_feeds (more_behind c.args.count)) in
    offered_as (g.P.Pen.offered c.args.pen.now)
    (joined-some c.args.front.now c.in-Some.behind.now c.in-Some.line.now c.args.count c.in-Some.ensures.some)
    (added (g.P.Pen.offered c.args.pen.now) first _ c.put_line.ensures
    (added (g.P.Pen.offered c.put_line.new.pen) next more c.put_lines.ensures c.put_more-2.ensures))
