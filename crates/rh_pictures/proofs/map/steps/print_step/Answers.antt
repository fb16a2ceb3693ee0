use Rattle.rh_pictures.proofs.Common.{◌++◌, List, Bool, [], ◌∷◌, ap, sym, refl, if◌then◌else◌, codes, ended, figure, Text, Scene, shown_lines, scene_at}
use Rattle.rh_pictures.proofs.Common.{offered_as}
use Rattle.rh_figure.specs.Map.{figure_lines, reply_lines, step_line}
use Rattle.rh_pictures.proofs.PlaceLemmas.{lines_then, offered_line}
use Rattle.rh_pictures.proofs.map.steps.print_step.Goals as goal

-- what stands below the reply
abbrev below : Bool → Scene → List Text
below still x = if still then codes "  (memory stays)" ∷ [] ∷ [] else figure_lines (figure x)

pub returns-then-above : goal.returns-then-above
returns-then-above g c = λ reply front.
    let x = scene_at (g.S.Sight.desk c.args.sight.now) c.args.step.now in
    let a = c.args.above.now in
    lines_then _ (step_line a.number a.line.now ∷ []) (reply_lines (ended reply) ++ below a.is_still x)
    (offered_line {x = step_line a.number a.line.now} _ refl c.print_step_line.ensures)
    (lines_then _ (reply_lines (ended reply)) (below a.is_still x) (offered_as _ (ap shown_lines front) c.print_reply_lines.ensures)
    (offered_as _ (ap (λ b. shown_lines (below b x)) (sym c.if-above.true)) c.print_still.ensures))
