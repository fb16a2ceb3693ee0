use Rattle.rh_pictures.proofs.Common.{◌≡◌, ◌∙◌, ◌+◌, Option, Some, None, ap, sym, subst, arith, refl, find, MessageItem, lies_in, message_items}
use Rattle.rh_pictures.proofs.Common.{message_of_scene}
use Rattle.rh_pictures.proofs.Common.{scene_at}
use Rattle.rh_pictures.proofs.HeapLemmas.{told-none, told-some}
use Rattle.rh_pictures.proofs.LensTells.{module-low, told-message, told-no-message}
use Rattle.rh_pictures.proofs.PostLemmas.{Told, message-told}
use Rattle.rh_pictures.proofs.lens.modules.ModuleContents.tell_message.Goals as goal

pub overflow_add-place : goal.overflow_add-place
overflow_add-place g c =
    let x = scene_at (g.S.Sight.desk c.args.self.now.sight.now) c.args.self.now.step.now in
    let low = module-low x c.args.piece.now c.recall_desk.ensures refl c.requires.piece in
    omega (arith, low)

pub overflow_cast-place : goal.overflow_cast-place
overflow_cast-place g c =
    let x = scene_at (g.S.Sight.desk c.args.self.now.sight.now) c.args.self.now.step.now in
    let low = module-low x c.args.piece.now c.recall_desk.ensures refl c.requires.piece in
    omega (arith, low)

pub returns-in-Some : goal.returns-in-Some
returns-in-Some g c =
    let d = g.S.Sight.desk c.args.self.now.sight.now in
    let x = scene_at d c.args.self.now.step.now in
    let p = c.args.piece.now in
    let b = p.at + 4 in
    let r = c.requires.kind in
    let here : find (lies_in b) (message_items d) ≡ Some c.in-Some.message = ap (find (lies_in b)) (sym c.requires.step.messages) ∙
    (sym c.message_in.ensures ∙ c.in-Some.is) in
    let T : Option MessageItem → Type 0 = λ z. Told b z (message_of_scene x b) in
    let w = told-some b c.in-Some.message (message_of_scene x b) (subst T here (message-told b d)) in
    told-message x p r.0 r.1 w.parcel _ w.is c.requires.nothing.bytes c.requires.nothing.used_by (c.message_words-inside.ensures w.parcel w.item)

pub returns-in_default : goal.returns-in_default
returns-in_default g c =
    let d = g.S.Sight.desk c.args.self.now.sight.now in
    let x = scene_at d c.args.self.now.step.now in
    let p = c.args.piece.now in
    let b = p.at + 4 in
    let r = c.requires.kind in
    let here : find (lies_in b) (message_items d) ≡ None = ap (find (lies_in b)) (sym c.requires.step.messages) ∙
    (sym c.message_in.ensures ∙ c.in_default.is) in
    let T : Option MessageItem → Type 0 = λ z. Told b z (message_of_scene x b) in
    told-no-message x p r.0 r.1 _ (told-none b (message_of_scene x b) (subst T here (message-told b d))) c.requires.nothing
