use Rattle.rh_pictures.proofs.Common.{◌∙◌, ap, arith, sym, flat_map, scene_at, offered_as}
use Rattle.rh_figure.specs.Changes.{all_return_line, bouncing, returns_text}
use Rattle.rh_pictures.proofs.ElementLemmas.{parts-one}
use Rattle.rh_pictures.proofs.ReturnLemmas.{returns-many, told-each, told-many}
use Rattle.rh_pictures.proofs.walks.post_changes.show_bounced.Goals as goal

pub returns-then-count-gt-MOST_FATES : goal.returns-then-count-gt-MOST_FATES
returns-then-count-gt-MOST_FATES g c =
    let d = g.S.Sight.desk c.args.sight.now in
    let x = scene_at d c.args.step.now in
    let element = g.A.Artist.change_text in
    let n = c.count_returned-count.result in
    let many = c.count_returned-count.ensures.value ∙ returns-many d x.before.messages c.args.step.now.messages.now c.requires.step.messages in
    let told = told-many (returns_text x) all_return_line (bouncing x) n many (omega (arith, c.if-count-gt-MOST_FATES.true)) in
    offered_as _ (ap element c.messages_return.ensures.value ∙ (sym (parts-one element (all_return_line n)) ∙ ap (flat_map element) (sym told)))
    c.change.ensures

pub returns-else-count-gt-MOST_FATES : goal.returns-else-count-gt-MOST_FATES
returns-else-count-gt-MOST_FATES g c =
    let d = g.S.Sight.desk c.args.sight.now in
    let x = scene_at d c.args.step.now in
    let many = c.count_returned-count.ensures.value ∙ returns-many d x.before.messages c.args.step.now.messages.now c.requires.step.messages in
    let told = told-each (returns_text x) all_return_line (bouncing x) c.count_returned-count.result many (omega (arith, c.if-count-gt-MOST_FATES.false)) in
    offered_as _ (ap (flat_map g.A.Artist.change_text) (sym told)) c.show_returned.ensures
