use Rattle.rh_pictures.proofs.Common.{◌∙◌, List, ℕ, ap, ap₂, refl, subst, sym, ◌&&◌, not, offered_as, scene_of, step_text, scene_at}
use Rattle.rh_pictures.specs.DrawnReplies.{Excerpts}
use Rattle.rh_scene.specs.SightPages.{share_in}
use Rattle.rh_scene.specs.Steps.{marks_seen}
use Rattle.rh_pictures.specs.PaintedProgress.{stand_shown}
use Rattle.rh_pictures.specs.SheetForms.{looks_of}
use Rattle.rh_pictures.proofs.TextPuts.{text_then}
use Rattle.rh_pictures.proofs.sheet.painter.Painter.show.Goals as goal

pub returns-clause-text : goal.returns-clause-text
returns-clause-text g c = λ text excerpt.
    let desk = g.D.Sight.desk in
    let m = c.args.self.now in
    let d = desk m.drawn in
    let deed = c.args.deed in
    let step = c.step_of-step.result in
    let is = c.step_of-step.ensures in
    let still = c.and_not.ensures ∙ ap (λ z. z && not deed.wanted) c.is_still.ensures in
    let P : List ℕ → Type 0 = λ z. Excerpts z deed.count text in
    let scene = ap₂ (λ pages kept. scene_of d (share_in pages d) kept (marks_seen step.marks)) is.pages is.kept
    ∙ ap (scene_of d (share_in c.page_list.new.list.items d) deed.kept.now) is.marks in
    let words = ap (λ lens. step_text (looks_of lens) c.and_not.result c.lines.result c.args.line.now text (scene_at d step) m.notes.items c.last.result)
    c.lens.ensures.value
    ∙ (ap₂ (λ n last. step_text (looks_of m.progress.lens) c.and_not.result n c.args.line.now text (scene_at d step) m.notes.items last) c.lines.ensures
    c.last.ensures
    ∙ ap₂ (λ b x. step_text (looks_of m.progress.lens) b m.progress.lines c.args.line.now text x m.notes.items m.progress.last) still scene) in
    record {
      share = share_in c.page_list.new.list.items d;
      shared = c.page_list.ensures.shared;
      offered = text_then _ _ _ c.open_step.ensures (offered_as _ words (c.print_step.ensures text (subst P (sym c.as_slice.ensures) excerpt)));
      next = record {
        drawn_is = refl;
        marked_is = refl;
        progress_is = c.end_step.ensures ∙ ap (λ b. stand_shown b m.progress) still;
        notes_are = refl;
        bad = refl;
      };
    }
