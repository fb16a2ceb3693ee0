use Rattle.std.proofs.Common.{rules}
use Rattle.rh_desk.proofs.words.program.Goals.{then-words-le1, else-words-le1}
use Rattle.rh_desk.proofs.words.program.Goals as goal

pub returns-clause-asked : goal.returns-clause-asked
returns-clause-asked g c = λ many. elim c.if-words-le1.branch [
  | then-words-le1 w ↦ search rules
  | else-words-le1 w ↦ rw (w.input-is, w.output-is, w.errors-is)
      (c.if-words-le1.ending, c.exit_status.ensures, rw w.ending-is w.any_words-ending.ensures.ends)
]

pub returns-clause-alone : goal.returns-clause-alone
returns-clause-alone g c = λ few. elim c.if-words-le1.branch [
  | then-words-le1 w ↦ rw (w.input-is, w.output-is, w.errors-is)
      (c.if-words-le1.ending, c.exit_status.ensures, rw w.ending-is (rw w.new.ensures at w.run_ending-ending.ensures.over))
  | else-words-le1 w ↦ search rules
]
