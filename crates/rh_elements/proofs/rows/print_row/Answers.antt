use Rattle.std.proofs.Common.{ap₂}
use Rattle.rh_elements.proofs.Common.{◌≡◌, Some, ◌∙◌, plot_of}
use Rattle.rh_sheet.specs.Frames.{page_in}
use Rattle.rh_sheet.specs.SheetRows.{addressed_text}
use Rattle.rh_elements.proofs.PageLemmas.{row-of-page}
use Rattle.rh_elements.proofs.WriteLemmas.{offered_as}
use Rattle.rh_elements.proofs.rows.print_row.Goals as goal

pub returns-in-Some : goal.returns-in-Some
returns-in-Some g c =
    let plot = plot_of c.args.plot.now in
    let page : page_in c.args.frame.pages c.args.i ≡ Some c.in-Some.k = cc in
    offered_as _
    (ap₂ (λ y low. addressed_text plot y low c.in-Some.k) c.row_y-y.ensures.value c.first_beside.ensures
    ∙ row-of-page c.args.frame plot c.args.i c.in-Some.k page)
    c.print_addressed.ensures
