use Rattle.rh_pictures.proofs.Common.{◌++◌, ap, ap₂, ◌∙◌, codes, figure_open, IsTaskSeen, scene_at, offered_as, IsSlotPlan}
use Rattle.rh_pictures.proofs.DrawingLemmas.{seen-same}
use Rattle.rh_sheet.specs.Frames.{frame_height}
use Rattle.rh_pictures.proofs.TextPuts.{text_last, text_then}
use Rattle.rh_pictures.proofs.sheet.slots.print_plan.Goals as goal

pub returns : goal.returns
returns g c = λ t e.
    let d = g.S.Sight.desk c.args.sight.now in
    let x = scene_at d c.args.step.now in
    let r = c.requires.task in
    let i = c.args.plan.now.i in
    let seen = seen-same (IsTaskSeen c.args.task.now) d.tasks i r.0 t r.1 e r.2 in
    let p = seen-same (λ u. IsSlotPlan x u c.args.plan.now) d.tasks i r.0 t r.1 e r.3 in
    let title = c.as_slice.ensures ∙ (c.text-2.ensures
    ∙ ap₂ (λ a b. a ++ b) (c.text.ensures ∙ ap (λ z. z ++ codes "The slot of ") c.new-title.ensures) (c.as_bytes.ensures.value ∙ seen.name)) in
    text_then (g.P.Pen.offered c.args.pen.now) _ _
    (offered_as _ (ap₂ (figure_open 1176) (c.height.ensures ∙ ap frame_height p.frame) title) c.print_figure_open.ensures)
    (text_then (g.P.Pen.offered c.print_figure_open.new.pen) _ _ (c.print_description.ensures t e)
    (text_then (g.P.Pen.offered c.print_description.new.pen) _ _ c.print_described.ensures
    (text_then (g.P.Pen.offered c.print_described.new.pen) _ _ (c.print_body.ensures t e)
    (text_last _ _ c.print_figure_end.ensures))))
