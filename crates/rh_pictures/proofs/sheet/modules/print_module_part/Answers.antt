use Rattle.rh_pictures.proofs.Common.{◌++◌, ap, ◌∙◌, area_name, heading_text, offered_as}
use Rattle.rh_figure.specs.Phrases.{pages_text}
use Rattle.rh_pictures.proofs.TextPuts.{text_then}
use Rattle.rh_pictures.proofs.sheet.modules.print_module_part.Goals as goal

pub returns : goal.returns
returns g c =
    let note = c.add_pages.ensures.value ∙ (ap (λ z. z ++ pages_text c.fixed_pages.result) c.new-note.ensures ∙ ap pages_text c.fixed_pages.ensures) in
    text_then _ _ _ (offered_as _ (ap (heading_text (area_name 1)) note) c.print_area_heading.ensures) c.print_bytes.ensures
