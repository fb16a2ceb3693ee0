use Rattle.rh_pictures.proofs.Common.{◌∙◌, ap, scene_of, noted, PaintStand}
use Rattle.rh_pictures.proofs.sheet.painter.Painter.begin_step.Goals as goal

pub returns-clause-notes : goal.returns-clause-notes
returns-clause-notes g c = λ s b marks is.
    let m = c.args.self.now in
    let number = c.lines-number.ensures ∙ ap (λ (p : PaintStand). p.lines) c.count_line.ensures.next in
    c.note_step.ensures s b marks is ∙ ap (λ k. noted k (scene_of (g.D.Sight.desk m.drawn) s b marks) m.notes.items) number
