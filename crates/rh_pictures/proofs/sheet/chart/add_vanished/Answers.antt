use Rattle.rh_pictures.proofs.Common.{append_assoc, append-nil}
use Rattle.rh_pictures.proofs.sheet.chart.add_vanished.Goals as goal

pub returns-then-wants_answer-clause-value : goal.returns-then-wants_answer-clause-value
returns-then-wants_answer-clause-value c =
    simp (c.text-then-wants_answer.ensures, c.text-2.ensures, c.add_who.ensures.value, c.text.ensures, c.if-wants_answer.true, append_assoc, append-nil)

pub returns-else-wants_answer-clause-value : goal.returns-else-wants_answer-clause-value
returns-else-wants_answer-clause-value c =
    simp (c.text-else-wants_answer.ensures, c.text-2.ensures, c.add_who.ensures.value, c.text.ensures, c.if-wants_answer.false, append_assoc, append-nil)
