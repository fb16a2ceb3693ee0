use Rattle.vf_desk.proofs.LineLaws.{fills-some, fills-none}
use Rattle.vf_desk.proofs.lines.fill.Goals as goal

pub returns-in-Some : goal.returns-in-Some
returns-in-Some c = λ d seen. fills-some (rw c.in-Some.is at c.print.ensures d seen)

pub returns-in-None : goal.returns-in-None
returns-in-None c = λ d seen. fills-none (rw c.in-None.is at c.print.ensures d seen)
