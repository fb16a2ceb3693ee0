use Rattle.rh_map.proofs.Common.{◌++◌, ◌+◌, append_assoc, append-nil, ap, ◌∙◌, codes, decimal}
use Rattle.rh_map.proofs.heap_changes.add_rest.Goals as goal

pub returns-clause-value : goal.returns-clause-value
returns-clause-value c =
    c.text-3.ensures
    ∙ (ap (λ z. z ++ codes " are left") (c.decimal-2.ensures.value
    ∙ ap (λ z. z ++ decimal c.args.left) (c.text-2.ensures
    ∙ ap (λ z. z ++ codes ": ") (c.decimal.ensures.value
    ∙ ap (λ z. z ++ decimal (c.args.size + 4 + c.args.left)) c.text.ensures)))
    ∙ simp (append_assoc, append-nil))
