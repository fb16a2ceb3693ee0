use Rattle.rh_pictures.proofs.Common.{◌≡◌, ◌++◌, take, drop, map, Note, followed, seen_among}
use Rattle.rh_pictures.proofs.sheet.notes.follow_notes.Given as goal

-- the notes so far follow the step
abbrev pub invariant-loop-note : goal.invariant-loop-note
invariant-loop-note g l = l.notes
    ≡ map (λ (n : Note). followed l.number (seen_among (g.S.Sight.desk l.sight) l.answered l.messages n) n) (take l.note-index l.initial.notes)
    ++ drop l.note-index l.initial.notes
