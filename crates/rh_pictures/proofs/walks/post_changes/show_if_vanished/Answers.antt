use Rattle.rh_pictures.proofs.Common.{◌≡◌, ◌∙◌, true, [], ◌∷◌, ap, ap₂, sym, if◌then◌else◌, flat_map, scene_at, offered_as}
use Rattle.rh_figure.specs.Changes.{has_vanished, vanishes_line, vanishes_text, why_text}
use Rattle.rh_pictures.proofs.ElementLemmas.{parts-one}
use Rattle.rh_pictures.proofs.walks.post_changes.show_if_vanished.Goals as goal

pub returns : goal.returns
returns g c =
    let x = scene_at (g.S.Sight.desk c.args.sight.now) c.args.step.now in
    let m = c.args.message.now in
    let element = g.A.Artist.change_text in
    let line = vanishes_text x m in
    let on : has_vanished x m ≡ true = sym c.has_vanished.ensures ∙ c.if-not-has_vanished.false in
    let said = c.message_vanishes.ensures.value
    ∙ ap₂ (λ t f. vanishes_line m.action m.my_ref (why_text t f m.code)) c.who_before-to.ensures c.who_before-from.ensures in
    offered_as _ (ap element said ∙ (sym (parts-one element line) ∙ sym (ap (λ b. flat_map element (if b then line ∷ [] else [])) on))) c.change.ensures
