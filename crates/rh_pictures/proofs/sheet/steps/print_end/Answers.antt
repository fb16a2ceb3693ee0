use Rattle.rh_pictures.proofs.TextPuts.{text_then}
use Rattle.rh_pictures.proofs.sheet.steps.print_end.Goals as goal

pub returns : goal.returns
returns g c = text_then _ _ _ c.put.ensures c.put-2.ensures
