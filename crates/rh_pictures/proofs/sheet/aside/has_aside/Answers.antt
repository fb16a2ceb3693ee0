use Rattle.rh_pictures.proofs.Common.{◌≡◌, true, length, ap₂, sym, ◌∙◌, ◌==◌, ◌||◌, not, letterboxes, transfers, scene_at, ins_of, outs_of}
use Rattle.rh_pictures.proofs.TransferLemmas.{sides-some}
use Rattle.rh_pictures.proofs.PostLemmas.{boxes-told}
use Rattle.rh_pictures.proofs.UnderLemmas.{is_some}
use Rattle.rh_pictures.proofs.sheet.aside.has_aside.Goals as goal

pub returns-then-has_letterboxes : goal.returns-then-has_letterboxes
returns-then-has_letterboxes g c =
    let ms = c.args.step.now.messages.now in
    let x = scene_at (g.S.Sight.desk c.args.sight.now) c.args.step.now in
    let none : (length c.args.notes.now == 0) ≡ true = sym c.is_empty.ensures ∙ c.if-not-is_empty.false in
    let letters : c.has_letterboxes.result ≡ is_some (letterboxes x) =
    c.has_letterboxes.ensures ∙ sym (boxes-told c.recall_desk.ensures ms c.requires.messages) in
    c.if-has_letterboxes.true
    ∙ sym (ap₂ (λ a b. not a || b || is_some (transfers x)) none (sym letters ∙ c.if-has_letterboxes.true))

pub returns-else-has_letterboxes : goal.returns-else-has_letterboxes
returns-else-has_letterboxes g c =
    let d = g.S.Sight.desk c.args.sight.now in
    let ms = c.args.step.now.messages.now in
    let x = scene_at (g.S.Sight.desk c.args.sight.now) c.args.step.now in
    let none : (length c.args.notes.now == 0) ≡ true = sym c.is_empty.ensures ∙ c.if-not-is_empty.false in
    let letters : c.has_letterboxes.result ≡ is_some (letterboxes x) =
    c.has_letterboxes.ensures ∙ sym (boxes-told c.recall_desk.ensures ms c.requires.messages) in
    c.has_transfers.ensures
    ∙ (sides-some (outs_of d) (ins_of d)
    ∙ sym (ap₂ (λ a b. not a || b || is_some (transfers x)) none (sym letters ∙ c.if-has_letterboxes.false)))
