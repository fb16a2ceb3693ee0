use Rattle.rh_map.proofs.Common.{◌++◌, ◌+◌, append_assoc, append-nil, ap, ◌∙◌, codes, decimal}
use Rattle.rh_map.proofs.heap_changes.add_filled.Goals as goal

pub returns-clause-value : goal.returns-clause-value
returns-clause-value c =
    c.text-2.ensures
    ∙ (ap (λ z. z ++ codes ", which it fills") (c.decimal.ensures.value ∙ ap (λ z. z ++ decimal (c.args.size + 4)) c.text.ensures)
    ∙ simp (append_assoc, append-nil))
