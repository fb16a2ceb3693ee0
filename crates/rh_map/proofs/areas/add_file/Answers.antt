use Rattle.rh_map.proofs.Common.{◌++◌, append_assoc, ap, ◌∙◌, codes, decimal, size_text}
use Rattle.rh_map.proofs.areas.add_file.Goals as goal

pub returns-clause-value : goal.returns-clause-value
returns-clause-value c =
    c.add_load.ensures.value
    ∙ (ap (λ z. z ++ (codes " for DataLoad " ++ decimal c.args.load)) (c.add_size.ensures.value
    ∙ ap (λ z. z ++ size_text c.args.size) c.text.ensures)
    ∙ simp append_assoc)
