use Rattle.rh_pictures.proofs.Common.{◌≡◌, List, ap, ap₂, ◌∙◌, length, map, length-map, Note, followed, MessageItem, message_items, seen_among}
use Rattle.rh_pictures.proofs.NoteLemmas.{refilled}
use Rattle.rh_pictures.proofs.sheet.notes.follow_messages.Goals as goal

pub returns-clause-notes : goal.returns-clause-notes
returns-clause-notes g c =
    let d = g.S.Sight.desk c.args.sight.now in
    let old = c.args.notes.now.items in
    let f : List MessageItem → Note → Note = λ ms n. followed c.args.number (seen_among d c.args.answered ms n) n in
    let follows : c.follow_notes.new.notes ≡ map (f (message_items d)) old =
    c.follow_notes.ensures ∙ ap₂ (λ ms ns. map (f ms) ns) (c.deref.ensures.0 ∙ c.messages.ensures) c.deref_mut.ensures.value in
    refilled old c.follow_notes.new.notes (ap length follows ∙ length-map old (f (message_items d))) ∙ follows
