use Rattle.rh_pictures.proofs.Common.{◌≤◌, [], ◌∷◌, ◌++◌, None, Some, ap, ap₂, sym, ◌∙◌, arith, append-nil, length, refl, map, length-map, Note, followed}
use Rattle.rh_pictures.proofs.Common.{message_items, seen_among}
use Rattle.rh_sheet.specs.declared.sizes.TheConstants.{MOST_NOTES}
use Rattle.rh_sheet.specs.Fates.{last_of}
use Rattle.rh_scene.specs.Seen.{letter_seen}
use Rattle.rh_pictures.proofs.NoteLemmas.{last-few, noted-is}
use Rattle.rh_pictures.proofs.sheet.notes.note_step.Goals as goal

pub returns-in-Some : goal.returns-in-Some
returns-in-Some g c = λ s b m is.
    let d = g.S.Sight.desk c.args.sight.now in
    let old = c.args.notes.now.items in
    c.keep_note.ensures
    ∙ (ap₂ (λ ns n. last_of MOST_NOTES (ns ++ n ∷ [])) c.follow_messages.ensures.notes c.new_note.ensures
    ∙ sym (noted-is d s b m c.args.number (message_items d) old (Some (letter_seen c.in-Some.sent)) c.answered_at-answered.result refl (c.in-Some.ensures b is)
    (c.answered_at-answered.ensures b is)))

pub returns-in_default : goal.returns-in_default
returns-in_default g c = λ s b m is.
    let d = g.S.Sight.desk c.args.sight.now in
    let old = c.args.notes.now.items in
    let f : Note → Note = λ n. followed c.args.number (seen_among d c.answered_at-answered.result (message_items d) n) n in
    let few : length (map f old) ≤ MOST_NOTES = omega (arith, length-map old f, c.follow_messages.ensures.few) in
    c.follow_messages.ensures.notes
    ∙ (sym (last-few (map f old) few)
    ∙ (ap (last_of MOST_NOTES) (sym (append-nil (map f old)))
    ∙ sym (noted-is d s b m c.args.number (message_items d) old None c.answered_at-answered.result refl (c.in_default.ensures b is)
    (c.answered_at-answered.ensures b is))))
