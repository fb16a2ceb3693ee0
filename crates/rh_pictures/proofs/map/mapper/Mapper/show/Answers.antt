use Rattle.rh_pictures.proofs.Common.{◌∙◌, List, ℕ, ap, ap₂, subst, sym, ◌&&◌, not, scene_of, shown_lines, share_in, Excerpts, offered_as}
use Rattle.rh_figure.specs.Map.{step_lines}
use Rattle.rh_scene.specs.Steps.{marks_seen}
use Rattle.rh_pictures.proofs.map.mapper.Mapper.show.Goals as goal

pub returns-clause-text : goal.returns-clause-text
returns-clause-text g c = λ text excerpt.
    let m = c.args.self.now in
    let d = g.D.Sight.desk m.drawn in
    let deed = c.args.deed in
    let step = c.step_of-step.result in
    let is = c.step_of-step.ensures in
    let P : List ℕ → Type 0 = λ z. Excerpts z deed.count text in
    let scene = ap₂ (λ pages kept. scene_of d (share_in pages d) kept (marks_seen step.marks)) is.pages is.kept
    ∙ ap (scene_of d (share_in c.page_list.new.list.items d) deed.kept.now) is.marks in
    offered_as _ (ap₂ (λ still x. shown_lines (step_lines still m.lines c.args.line.now text x))
    (c.and_not.ensures ∙ ap (λ z. z && not deed.wanted) c.is_still.ensures) scene)
    (c.print_step.ensures text (subst P (sym c.as_slice.ensures) excerpt))
