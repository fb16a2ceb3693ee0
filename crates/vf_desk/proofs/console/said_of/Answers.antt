use Rattle.std.proofs.Common.{append-nil, sym}
use Rattle.vf_desk.proofs.console.said_of.Goals as goal

pub returns-in-None : goal.returns-in-None
returns-in-None c = λ d. rw c.in-None.is (sym (append-nil _))
