use Rattle.rh_pictures.proofs.Common.{◌≡◌, ℕ, List, ◌++◌, ◌∙◌, Option, ap, append_assoc, sym, flat_map, option_map, Scene, Text, scene_at, offered_as}
use Rattle.rh_defs.specs.declared.message.Letter.{Letter}
use Rattle.rh_figure.specs.Changes.{bounced_text, sent_text, taken_text, vanished_text}
use Rattle.rh_scene.specs.Seen.{letter_seen}
use Rattle.rh_pictures.proofs.ElementLemmas.{parts-both, parts-three}
use Rattle.rh_pictures.proofs.TextPuts.{offered_none, text_then}
use Rattle.rh_pictures.proofs.walks.post_changes.show_post_changes.Goals as goal

-- the messages that go back, the one that was taken, those that vanished, and the one that was sent
whole : (element : Text → List ℕ) (x : Scene) (o : Option (Letter × ℕ))
    → flat_map element (bounced_text x) ++ (flat_map element (taken_text x x.marks.taken)
    ++ (flat_map element (vanished_text x) ++ flat_map element (sent_text x o)))
    ≡ flat_map element (bounced_text x ++ taken_text x x.marks.taken ++ vanished_text x ++ sent_text x o)
whole element x o =
    let back = bounced_text x in
    let taken = taken_text x x.marks.taken in
    let gone = vanished_text x in
    let sent = sent_text x o in
    ap (λ z. flat_map element back ++ z) (sym (parts-three element taken gone sent))
    ∙ (sym (parts-both element back (taken ++ (gone ++ sent)))
    ∙ ap (flat_map element) (sym (append_assoc back taken (gone ++ sent)) ∙ sym (append_assoc (back ++ taken) gone sent)))

pub returns-in-Some : goal.returns-in-Some
returns-in-Some g c =
    let x = scene_at (g.S.Sight.desk c.args.sight.now) c.args.step.now in
    let offered = g.P.Pen.offered in
    let element = g.A.Artist.change_text in
    let sent = offered_as _ (ap (λ o. flat_map element (sent_text x (option_map letter_seen o))) (sym c.in-Some.is))
    c.show_sent.ensures in
    offered_as _ (whole element x x.marks.sent)
    (text_then (offered c.args.pen.now) _ _ c.show_bounced.ensures
    (text_then (offered c.show_bounced.new.pen) _ _ c.show_taken.ensures
    (text_then (offered c.show_taken.new.pen) _ _ c.show_vanished.ensures sent)))

pub returns-in_default : goal.returns-in_default
returns-in_default g c =
    let x = scene_at (g.S.Sight.desk c.args.sight.now) c.args.step.now in
    let offered = g.P.Pen.offered in
    let element = g.A.Artist.change_text in
    let none = offered_as _ (ap (λ o. flat_map element (sent_text x (option_map letter_seen o))) (sym c.in_default.is))
    (offered_none (offered c.show_vanished.new.pen)) in
    offered_as _ (whole element x x.marks.sent)
    (text_then (offered c.args.pen.now) _ _ c.show_bounced.ensures
    (text_then (offered c.show_bounced.new.pen) _ _ c.show_taken.ensures
    (text_then (offered c.show_taken.new.pen) _ _ c.show_vanished.ensures none)))
