use Rattle.rh_map.proofs.Common.{◌++◌, append_assoc, append-nil, ap, ◌∙◌}
use Rattle.rh_map.specs.MapTasks.{who_text}
use Rattle.rh_map.proofs.post_changes.add_about.Goals as goal

pub returns-clause-value : goal.returns-clause-value
returns-clause-value c =
    c.text-2.ensures
    ∙ (ap (λ z. z ++ c.args.behind.now) (c.add_who.ensures.value ∙ ap (λ z. z ++ who_text c.args.who.now) c.text.ensures)
    ∙ simp (append_assoc, append-nil))
