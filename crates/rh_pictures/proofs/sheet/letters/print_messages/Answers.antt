use Rattle.rh_pictures.proofs.Common.{◌≡◌, true, false, sym, ◌∙◌, append_assoc, letterboxes, letterbox_row, scene_at, offered_as, offered_none}
use Rattle.rh_sheet.specs.Tables.{messages_heading}
use Rattle.rh_pictures.proofs.TableLemmas.{rows-none, rows-some}
use Rattle.rh_pictures.proofs.PostLemmas.{boxes-told}
use Rattle.rh_pictures.proofs.UnderLemmas.{is_some}
use Rattle.rh_pictures.proofs.sheet.letters.print_messages.Goals as goal

pub returns-then-not-has_letterboxes : goal.returns-then-not-has_letterboxes
returns-then-not-has_letterboxes g c =
    let ms = c.args.step.now.messages.now in
    let bs = letterboxes (scene_at (g.S.Sight.desk c.args.sight.now) c.args.step.now) in
    let none : is_some bs ≡ false =
    boxes-told c.recall_desk.ensures ms c.requires.step.messages ∙ (sym c.has_letterboxes.ensures ∙ c.if-not-has_letterboxes.true) in
    offered_as _ (sym (rows-none messages_heading letterbox_row bs none)) (offered_none _)

pub returns : goal.returns
returns g c =
    let ms = c.args.step.now.messages.now in
    let bs = letterboxes (scene_at (g.S.Sight.desk c.args.sight.now) c.args.step.now) in
    let some : is_some bs ≡ true =
    boxes-told c.recall_desk.ensures ms c.requires.step.messages ∙ (sym c.has_letterboxes.ensures ∙ c.if-not-has_letterboxes.false) in
    offered_as _ (sym (rows-some messages_heading letterbox_row bs some))
    (simp (c.put.ensures, c.put-2.ensures, c.show_letterboxes.ensures, c.put-3.ensures, append_assoc))
