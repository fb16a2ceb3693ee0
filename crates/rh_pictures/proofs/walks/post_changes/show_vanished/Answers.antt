use Rattle.rh_pictures.proofs.Common.{◌∙◌, ap, arith, filter, length, sym, flat_map, map, scene_at, offered_as}
use Rattle.rh_figure.specs.Changes.{all_vanish_line, has_vanished, vanished, vanishes_text}
use Rattle.rh_pictures.proofs.ElementLemmas.{parts-one}
use Rattle.rh_pictures.proofs.ReturnLemmas.{told-each, told-many}
use Rattle.rh_pictures.proofs.walks.post_changes.show_vanished.Goals as goal

pub returns-then-count-gt-MOST_FATES : goal.returns-then-count-gt-MOST_FATES
returns-then-count-gt-MOST_FATES g c =
    let x = scene_at (g.S.Sight.desk c.args.sight.now) c.args.step.now in
    let element = g.A.Artist.change_text in
    let n = c.count_vanished-count.result in
    let many = c.count_vanished-count.ensures.value ∙ ap (λ ms. length (filter (has_vanished x) ms)) c.messages-messages.ensures.value in
    let told = told-many (vanishes_text x) all_vanish_line (vanished x) n many (omega (arith, c.if-count-gt-MOST_FATES.true)) in
    offered_as _ (ap element c.messages_vanish.ensures.value ∙ (sym (parts-one element (all_vanish_line n)) ∙ ap (flat_map element) (sym told)))
    c.change.ensures

pub returns-else-count-gt-MOST_FATES : goal.returns-else-count-gt-MOST_FATES
returns-else-count-gt-MOST_FATES g c =
    let x = scene_at (g.S.Sight.desk c.args.sight.now) c.args.step.now in
    let many = c.count_vanished-count.ensures.value ∙ ap (λ ms. length (filter (has_vanished x) ms)) c.messages-messages.ensures.value in
    let told = told-each (vanishes_text x) all_vanish_line (vanished x) c.count_vanished-count.result many (omega (arith, c.if-count-gt-MOST_FATES.false)) in
    offered_as _ (ap (λ ms. flat_map g.A.Artist.change_text (map (vanishes_text x) (filter (has_vanished x) ms))) c.messages-messages.ensures.value
    ∙ ap (flat_map g.A.Artist.change_text) (sym told)) c.show_each_vanished.ensures
