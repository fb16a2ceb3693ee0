use Rattle.std.proofs.Common.{◌++◌, ap, append_assoc, sym, ◌∙◌}
use Rattle.std.specs.Prelude.{codes}
use Rattle.rh_elements.proofs.WriteLemmas.{offered_as}
use Rattle.rh_lens.proofs.parts.print_group.Goals as goal

pub returns : goal.returns
returns g c =
    let key = c.args.key.now in
    let row = c.as_slice.ensures
    ∙ (c.text-3.ensures ∙ ap (λ z. z ++ codes "\">\n") (c.text-2.ensures
    ∙ ap (λ z. z ++ key) (c.text.ensures ∙ ap (λ z. z ++ codes "<g data-key=\"") c.new-row.ensures))) in
    offered_as _ (row ∙ ap (λ z. codes "<g data-key=\"" ++ z) (sym (append_assoc key (codes "\"") (codes ">\n")))) c.put.ensures
