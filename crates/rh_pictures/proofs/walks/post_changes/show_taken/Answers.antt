use Rattle.rh_pictures.proofs.Common.{ap, sym, ◌∙◌, flat_map, task_name, scene_at, offered_as}
use Rattle.rh_figure.specs.Changes.{taken_text, takes_line}
use Rattle.rh_pictures.proofs.ElementLemmas.{parts-one}
use Rattle.rh_pictures.proofs.walks.post_changes.show_taken.Goals as goal

pub returns-in-Some : goal.returns-in-Some
returns-in-Some g c =
    let d = g.S.Sight.desk c.args.sight.now in
    let x = scene_at d c.args.step.now in
    let element = g.A.Artist.change_text in
    let line = takes_line (task_name d c.args.step.now.marks.handle) c.in-Some.action c.in-Some.my_ref in
    offered_as _ (ap element (c.task_takes.ensures.value ∙ ap (λ w. takes_line w c.in-Some.action c.in-Some.my_ref) c.who_of-who.ensures)
    ∙ (sym (parts-one element line) ∙ ap (λ o. flat_map element (taken_text x o)) (sym c.in-Some.is))) c.change.ensures
