use Rattle.rh_pictures.proofs.Common.{◌≡◌, true, false, ◌∷◌, [], ap, sym, ◌∙◌, map, refl, codes, letterbox_line, scene_at, shown_lines, offered_as}
use Rattle.rh_pictures.proofs.Common.{offered_none}
use Rattle.rh_figure.specs.Figure.{letterboxes}
use Rattle.rh_pictures.proofs.PostLemmas.{boxes-told}
use Rattle.rh_pictures.proofs.UnderLemmas.{is_some, under-none, under-some}
use Rattle.rh_pictures.proofs.PlaceLemmas.{lines_then, offered_line, shown-each}
use Rattle.rh_pictures.proofs.map.letters.print_letter_part.Goals as goal

pub returns-then-not-has_letterboxes : goal.returns-then-not-has_letterboxes
returns-then-not-has_letterboxes g c =
    let bs = letterboxes (scene_at (g.S.Sight.desk c.args.sight.now) c.args.step.now) in
    let none : is_some bs ≡ false = boxes-told c.recall_desk.ensures c.args.step.now.messages.now c.requires.step.messages
    ∙ (sym c.has_letterboxes.ensures ∙ c.if-not-has_letterboxes.true) in
    offered_as _ (ap shown_lines (sym (under-none (codes "Messages") letterbox_line bs none))) (offered_none _)

pub returns : goal.returns
returns g c =
    let bs = letterboxes (scene_at (g.S.Sight.desk c.args.sight.now) c.args.step.now) in
    let some : is_some bs ≡ true = boxes-told c.recall_desk.ensures c.args.step.now.messages.now c.requires.step.messages
    ∙ (sym c.has_letterboxes.ensures ∙ c.if-not-has_letterboxes.false) in
    offered_as _ (ap shown_lines (sym (under-some (codes "Messages") letterbox_line bs some)))
    (lines_then _ (codes "Messages" ∷ []) (map letterbox_line bs) (offered_line {x = codes "Messages"} _ refl c.put_line.ensures)
    (offered_as _ (shown-each letterbox_line bs) c.show_letterboxes.ensures))
