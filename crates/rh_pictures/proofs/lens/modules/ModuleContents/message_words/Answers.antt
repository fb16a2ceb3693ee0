use Rattle.rh_pictures.proofs.Common.{◌∙◌, ◌++◌, ◌∷◌, [], ap, ap₂, codes, concat, decimal, task_name, scene_at}
use Rattle.rh_defs.specs.Messages.{code_number}
use Rattle.rh_defs.specs.Text.{action_name}
use Rattle.rh_figure.specs.Cards.{between_text}
use Rattle.rh_pictures.proofs.LensTells.{lines-same}
use Rattle.rh_pictures.proofs.lens.modules.ModuleContents.message_words.Goals as goal

pub returns : goal.returns
returns g c = λ p is.
    let d = g.S.Sight.desk c.args.self.now.sight.now in
    let m = c.args.message.now in
    let first = c.message_name.ensures.value ∙ ap₂ (λ r a. concat (decimal r ∷ codes " " ∷ action_name a ∷ [])) is.my_ref is.action in
    let way = ap₂ (between_text m.code) (c.who_of-sender.ensures ∙ ap (task_name d) is.from) (c.who_of-receiver.ensures ∙ ap (task_name d) is.to) in
    let second = c.message_way.ensures.value ∙ (way ∙ ap (λ k. between_text k (task_name d p.message.from) (task_name d p.to)) is.code) in
    let front = c.text.ensures ∙ ap (λ z. z ++ codes "code ") c.new-code.ensures in
    let number = c.number.ensures ∙ ap code_number is.code in
    let third = c.decimal.ensures.value ∙ (ap (λ z. z ++ decimal c.number.result) front ∙ ap (λ n. codes "code " ++ decimal n) number) in
    lines-same first second third
