use Rattle.rh_pictures.proofs.Common.{[], ◌∷◌, ap, ap₂, concat, offered_as, where_so, said_end, step_end}
use Rattle.rh_sheet.specs.Sheet.{sheet_foot}
use Rattle.rh_pictures.proofs.TextPuts.{text_then}
use Rattle.rh_pictures.proofs.sheet.painter.Painter.end.Goals as goal

pub returns : goal.returns
returns g c =
    text_then _ _ _ (offered_as _ (ap (λ b. where_so b (concat (said_end ∷ step_end ∷ []))) c.is_open.ensures) c.print_rest.ensures)
    (offered_as _ (ap₂ sheet_foot c.begun.ensures.value c.left.ensures) c.print_foot.ensures)
