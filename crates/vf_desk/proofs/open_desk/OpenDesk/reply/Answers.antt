use Rattle.vf_desk.proofs.LineLaws.{replies-closed, replies-open}
use Rattle.vf_desk.proofs.open_desk.OpenDesk.reply.Goals as goal

pub returns-in-Some-clause-replies : goal.returns-in-Some-clause-replies
returns-in-Some-clause-replies c = replies-open c.in-Some.is c.fill.ensures

pub returns-in-None-clause-replies : goal.returns-in-None-clause-replies
returns-in-None-clause-replies c = replies-closed c.in-None.is
