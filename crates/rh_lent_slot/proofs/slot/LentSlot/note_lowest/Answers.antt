use Rattle.rh_lent_slot.proofs.NotedLaws.{notes_lowest}
use Rattle.rh_lent_slot.proofs.slot.LentSlot.note_lowest.Goals as goal

pub returns-clause-first : goal.returns-clause-first
returns-clause-first c = notes_lowest _ _ _ _ c.requires.spells.words c.word_in-end.ensures c.note_at.ensures
