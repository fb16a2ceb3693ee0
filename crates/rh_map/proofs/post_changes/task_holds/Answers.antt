use Rattle.rh_map.proofs.Common.{[], ◌∷◌, ◌++◌, append_assoc, append-nil, ap, ◌∙◌, codes, decimal}
use Rattle.std.specs.List.{concat}
use Rattle.rh_defs.specs.Text.{action_name}
use Rattle.rh_map.specs.MapTasks.{who_text}
use Rattle.rh_map.proofs.post_changes.task_holds.Goals as goal

pub returns-clause-value : goal.returns-clause-value
returns-clause-value c =
    c.text-2.ensures
    ∙ (ap (λ z. z ++ codes " until it answers or polls again") (c.add_message.ensures.value
    ∙ ap (λ z. z ++ concat (action_name c.args.action ∷ codes " " ∷ decimal c.args.my_ref ∷ [])) (c.text.ensures
    ∙ ap (λ z. z ++ codes " holds ") (c.add_who.ensures.value ∙ ap (λ z. z ++ who_text c.args.who.now) c.new-row.ensures)))
    ∙ simp (append_assoc, append-nil))
