use Rattle.rh_pictures.proofs.Common.{◌≡◌, true, [], ◌∷◌, ap, sym, ◌∙◌, if◌then◌else◌, flat_map, task_name, offered_as}
use Rattle.rh_figure.specs.Changes.{returns_line}
use Rattle.rh_pictures.specs.Returns as back
use Rattle.rh_pictures.proofs.ElementLemmas.{parts-one}
use Rattle.rh_pictures.proofs.walks.post_changes.show_return.Goals as goal

pub returns : goal.returns
returns g c =
    let m = c.args.message.now in
    let element = g.A.Artist.change_text in
    let line = returns_line m.action m.my_ref (task_name (g.S.Sight.desk c.args.sight.now) m.to) in
    let on : back.returns c.args.step.now.kept.now.messages m ≡ true = sym c.goes_back.ensures ∙ c.if-not-goes_back.false in
    offered_as _ (ap element (c.message_returns.ensures.value ∙ ap (returns_line m.action m.my_ref) c.who_of-to.ensures)
    ∙ (sym (parts-one element line) ∙ sym (ap (λ b. flat_map element (if b then line ∷ [] else [])) on))) c.change.ensures
