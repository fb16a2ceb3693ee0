use Rattle.rh_map.proofs.Common.{◌++◌, append_assoc, append-nil, ap, ◌∙◌, codes, size_text}
use Rattle.rh_defs.specs.Text.{address}
use Rattle.rh_map.specs.MapTasks.{who_text}
use Rattle.rh_map.proofs.post_changes.bytes_sent.Goals as goal

pub returns-clause-value : goal.returns-clause-value
returns-clause-value c =
    c.address.ensures.value
    ∙ (ap (λ z. z ++ address c.args.buffer) (c.text-2.ensures
    ∙ ap (λ z. z ++ codes " at ") (c.add_who.ensures.value
    ∙ ap (λ z. z ++ who_text c.args.to.now) (c.text.ensures
    ∙ ap (λ z. z ++ codes " into the buffer of ") (c.add_size.ensures.value
    ∙ ap (λ z. z ++ size_text c.args.count) c.new-row.ensures))))
    ∙ simp (append_assoc, append-nil))
