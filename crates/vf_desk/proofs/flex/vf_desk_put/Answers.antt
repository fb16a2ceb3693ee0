use Rattle.std.proofs.Common.{refl}
use Rattle.vf_desk.proofs.CallLaws.{does}
use Rattle.vf_desk.proofs.flex.vf_desk_put.Goals as goal

pub returns : goal.returns
returns c = does c.args.desk.now refl c.write.ensures.said c.write.ensures.desk c.write.ensures.rest c.write.ensures.refused c.status.ensures
