use Rattle.vf_desk.proofs.FillLaws.{one-item}
use Rattle.vf_desk.proofs.lists.put_at.Goals as goal

pub returns-then-i-to : goal.returns-then-i-to
returns-then-i-to c = one-item c.args.i c.args.to.now c.args.item c.if-i-to.true
