use Rattle.rh_pictures.proofs.Common.{◌≡◌, ◌≤◌, ◌*◌, length, take, arrows, arrows_seen}
use Rattle.rh_pictures.proofs.sheet.ways.ways_of.Given as goal

-- the arrows of the messages so far
abbrev pub invariant-loop-note : goal.invariant-loop-note
invariant-loop-note l =
    (arrows_seen l.ways.items ≡ arrows (take l.note-index l.notes)) × (length l.ways.items ≤ 2 * l.note-index)
