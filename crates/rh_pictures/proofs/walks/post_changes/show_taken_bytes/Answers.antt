use Rattle.rh_pictures.proofs.Common.{ap, sym, flat_map, scene_at, offered_as}
use Rattle.rh_figure.specs.Changes.{bytes_sent_text, where_taken}
use Rattle.rh_pictures.proofs.TextPuts.{offered_none}
use Rattle.rh_pictures.proofs.walks.post_changes.show_taken_bytes.Goals as goal

pub returns-in-Some : goal.returns-in-Some
returns-in-Some g c =
    let x = scene_at (g.S.Sight.desk c.args.sight.now) c.args.step.now in
    let lines = bytes_sent_text x c.args.letter.now c.args.letter.now.body in
    offered_as _ (ap (λ o. flat_map g.A.Artist.change_text (where_taken o lines)) (sym c.in-Some.is)) (c.show_bytes.ensures x.share x.before x.marks)

pub returns-in-None : goal.returns-in-None
returns-in-None g c =
    let x = scene_at (g.S.Sight.desk c.args.sight.now) c.args.step.now in
    let lines = bytes_sent_text x c.args.letter.now c.args.letter.now.body in
    offered_as _ (ap (λ o. flat_map g.A.Artist.change_text (where_taken o lines)) (sym c.in-None.is)) (offered_none (g.P.Pen.offered c.args.pen.now))
