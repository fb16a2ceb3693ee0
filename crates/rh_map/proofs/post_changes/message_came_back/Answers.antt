use Rattle.rh_map.proofs.Common.{[], ◌∷◌, ◌++◌, append_assoc, append-nil, ap, ◌∙◌, codes, decimal}
use Rattle.std.specs.List.{concat}
use Rattle.rh_defs.specs.Text.{action_name}
use Rattle.rh_map.proofs.post_changes.message_came_back.Goals as goal

pub returns-clause-value : goal.returns-clause-value
returns-clause-value c =
    c.text.ensures
    ∙ (ap (λ z. z ++ codes " has come back: nobody answered it") (c.add_message.ensures.value
    ∙ ap (λ z. z ++ concat (action_name c.args.action ∷ codes " " ∷ decimal c.args.my_ref ∷ [])) c.new-row.ensures)
    ∙ simp (append_assoc, append-nil))
