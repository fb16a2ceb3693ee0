use Rattle.rh_defs.proofs.QuestionLaws.{asked-alike}
use Rattle.vf_desk.proofs.said.Said.put.Goals as goal

pub returns-in-Told : goal.returns-in-Told
returns-in-Told g c = λ d same. rw (c.in-Told.is, ← asked-alike same c.in-Told.question) c.put_answer.ensures
