use Rattle.rh_pictures.proofs.Common.{List, ap, Note, figure_text, scene_at, offered_as}
use Rattle.rh_sheet.specs.SheetSteps.{aside_text}
use Rattle.rh_pictures.proofs.TextPuts.{text_then}
use Rattle.rh_pictures.proofs.sheet.figure.print_figure.Goals as goal

pub returns : goal.returns
unfolding figure_text
returns g c =
    let x = scene_at (g.S.Sight.desk c.args.sight.now) c.args.step.now in
    text_then _ _ _ c.print_memory.ensures
    (offered_as _ (ap (λ (notes : List Note). aside_text x notes c.args.number) c.deref.ensures.0) c.print_aside.ensures)
