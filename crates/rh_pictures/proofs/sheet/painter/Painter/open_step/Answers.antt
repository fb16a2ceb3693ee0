use Rattle.rh_pictures.proofs.Common.{[], ◌+◌, ◌∙◌, ap, sym, if◌then◌else◌, offered_as}
use Rattle.rh_sheet.specs.SheetSteps.{step_open}
use Rattle.rh_pictures.proofs.sheet.painter.Painter.open_step.Goals as goal

pub returns : goal.returns
returns g c =
    let p = c.args.self.now.progress in
    offered_as _ (ap step_open c.next.ensures.value
    ∙ ap (λ b. if b then [] else step_open (p.shown + 1)) (sym (sym c.is_open.ensures ∙ c.if-is_open.false)))
    c.print_step_open.ensures
