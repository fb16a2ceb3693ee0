use Rattle.rh_map.proofs.Common.{◌++◌, append_assoc, append-nil, ap, ◌∙◌, codes, not, decimal, where_so}
use Rattle.rh_figure.specs.Phrases.{pages_text}
use Rattle.rh_map.proofs.headings.add_slot_note.Goals as goal

pub returns : goal.returns
returns c =
    let slot = c.args.slot.now in
    record {
      value = c.add_budging.ensures
          ∙ (ap (λ z. z ++ where_so (not slot.budging) (codes ", budging off")) (c.add_pages.ensures.value
          ∙ ap (λ z. z ++ pages_text slot.pages) (c.add_buffer.ensures.value
          ∙ ap (λ z. z ++ (codes ", buffer of " ++ decimal slot.buffer ++ codes ", ")) c.add_task.ensures.value))
          ∙ simp (append_assoc, append-nil));
    }
