use Rattle.rh_pictures.proofs.Common.{ℕ, Bool, ap, sym, ◌∙◌, codes, heading_line, Text, position, task_pages, slot_panels}
use Rattle.rh_defs.specs.declared.command.Manner.{Manner}
use Rattle.rh_figure.specs.Figure.{note_of_slot}
use Rattle.rh_figure.specs.Map.{name_with_mark}
use Rattle.rh_figure.specs.Rows.{letter_at}
use Rattle.rh_pictures.proofs.DrawingLemmas.{is_slot_of}
use Rattle.rh_pictures.proofs.PlaceLemmas.{offered_line}
use Rattle.rh_pictures.proofs.map.slots.print_heading.Goals as goal

abbrev text : Text → ℕ → Manner → ℕ → ℕ → ℕ → Bool → Text
text name mark manner h b n budging = heading_line (name_with_mark (codes "Slot ") name mark) (note_of_slot manner h b n budging)

pub returns : goal.returns
returns g c = λ x t seen stands at.
    let s = c.args.task.now in
    let mark = letter_at (position (is_slot_of t.handle) (slot_panels x)) in
    offered_line _
    (ap (λ z. text z c.slot_mark.result s.manner s.handle s.buffer s.pages s.budging) seen.name
    ∙ (ap (λ z. text t.name z s.manner s.handle s.buffer s.pages s.budging) (c.slot_mark.ensures ∙ ap letter_at (sym at))
    ∙ (ap (λ z. text t.name mark z s.handle s.buffer s.pages s.budging) seen.manner
    ∙ (ap (λ z. text t.name mark t.manner z s.buffer s.pages s.budging) seen.handle
    ∙ (ap (λ z. text t.name mark t.manner t.handle z s.pages s.budging) seen.buffer
    ∙ (ap (λ z. text t.name mark t.manner t.handle t.buffer z s.budging) seen.pages
    ∙ ap (λ z. text t.name mark t.manner t.handle t.buffer (task_pages t) z) seen.budging))))))
    c.print_slot_heading.ensures
