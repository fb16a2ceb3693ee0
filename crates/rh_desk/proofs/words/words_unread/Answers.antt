use Rattle.std.proofs.Common.{rules, refl}
use Rattle.rh_session.specs.declared.status.RunFault.TheVariants.{NoMemory}
use Rattle.rh_desk.proofs.words.words_unread.Goals.{then-eq, else-eq}
use Rattle.rh_desk.proofs.words.words_unread.Goals as goal

pub returns-clause-memory_error : goal.returns-clause-memory_error
returns-clause-memory_error g c = elim c.if-eq.branch [
  | then-eq w ↦ λ m. rw w.errors-is (w.ended-ending.ensures.errors NoMemory refl)
  | else-eq w ↦ search rules
]
