use Rattle.rh_pictures.proofs.Common.{ap, flat_map, return_lines}
use Rattle.rh_map.proofs.Left.{left_less, left_none}
use Rattle.rh_pictures.proofs.ElementLemmas.{items-at, items-end}
use Rattle.rh_pictures.proofs.ReturnLemmas.{returns-are}
use Rattle.rh_pictures.proofs.TextPuts.{left_from}
use Rattle.rh_pictures.proofs.walks.post_changes.show_returned.Goals as goal

pub loop-message-init : goal.loop-message-init
loop-message-init g c =
    let d = g.S.Sight.desk c.args.sight.now in
    let before = c.args.step.now.kept.now.messages in
    left_from _ (ap (flat_map g.A.Artist.change_text) (returns-are d before c.args.step.now.messages.now c.requires.messages))

pub loop-message-preserved : goal.loop-message-preserved
loop-message-preserved g c =
    let of = return_lines (g.S.Sight.desk c.args.sight.now) c.args.step.now.kept.now.messages in
    left_less _ c.loop-message.invariant (items-at g.A.Artist.change_text of c.args.step.now.messages.now c.loop-message.message-index
    c.message-item.result c.loop-message-test.true c.message-item.is)
    c.show_return.ensures

pub returns : goal.returns
returns g c =
    let of = return_lines (g.S.Sight.desk c.args.sight.now) c.args.step.now.kept.now.messages in
    left_none c.loop-message.invariant
    (items-end g.A.Artist.change_text of c.args.step.now.messages.now c.loop-message.message-index c.loop-message-test.false)
