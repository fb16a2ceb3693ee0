use Rattle.rh_pictures.proofs.Common.{ap, ◌∙◌, false, get_or, set, Note, followed, seen_among}
use Rattle.rh_sheet.specs.declared.note.Fate.TheVariants.{Queued}
use Rattle.rh_defs.specs.declared.message.Action.TheVariants.{DataSave}
use Rattle.rh_pictures.proofs.NoteLemmas.{written-more}
use Rattle.rh_pictures.proofs.sheet.notes.follow_notes.Goals as goal

pub loop-note-preserved : goal.loop-note-preserved
loop-note-preserved g c =
    let d = g.S.Sight.desk c.args.sight.now in
    let f : Note → Note = λ n. followed c.args.number (seen_among d c.args.answered c.args.messages.now n) n in
    let none : Note = record {
      my_ref = 0;
      from = 0;
      to = 0;
      action = DataSave;
      wants_answer = false;
      fate = Queued;
      sent = 0;
      reached = 0;
      back = 0;
      ended = 0;
    } in
    let note : Note = get_or c.loop-note.notes c.loop-note.note-index none in
    ap (λ z. set c.loop-note.notes c.loop-note.note-index z) (c.followed.ensures ∙ ap (λ k. followed c.args.number k note) c.whereabouts-seen.ensures)
    ∙ written-more f c.args.notes.now c.loop-note.notes c.loop-note.note-index none c.loop-note-test.true c.loop-note.auto.notes c.loop-note.invariant
