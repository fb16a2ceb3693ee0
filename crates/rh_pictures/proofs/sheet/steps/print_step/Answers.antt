use Rattle.rh_pictures.proofs.Common.{offered_as, scene_at}
use Rattle.rh_pictures.specs.SheetForms.{looks_of}
use Rattle.rh_pictures.proofs.PrintLemmas.{step-as}
use Rattle.rh_pictures.proofs.TextPuts.{text_then}
use Rattle.rh_pictures.proofs.sheet.steps.print_step.Goals as goal

pub returns-then-above : goal.returns-then-above
returns-then-above g c = λ reply front.
    let x = scene_at (g.S.Sight.desk c.args.sight.now) c.args.step.now in
    let a = c.args.above.now in
    offered_as _ (step-as (looks_of c.args.lens) a.number a.line.now reply x c.args.notes.now.items c.args.last c.if-above.true)
    (text_then (g.P.Pen.offered c.args.pen.now) _ _ (c.print_said.ensures reply front)
    (text_then (g.P.Pen.offered c.print_said.new.pen) _ _ c.print_still.ensures c.print_end.ensures))

pub returns : goal.returns
returns g c = λ reply front.
    let x = scene_at (g.S.Sight.desk c.args.sight.now) c.args.step.now in
    let a = c.args.above.now in
    offered_as _ (step-as (looks_of c.args.lens) a.number a.line.now reply x c.args.notes.now.items c.args.last c.if-above.false)
    (text_then (g.P.Pen.offered c.args.pen.now) _ _ (c.print_said.ensures reply front)
    (text_then (g.P.Pen.offered c.print_said.new.pen) _ _ c.show_changes.ensures
    (text_then (g.P.Pen.offered c.show_changes.new.pen) _ _ c.put.ensures
    (text_then (g.P.Pen.offered c.put.new.self) _ _ c.print_figure.ensures c.put-2.ensures))))
