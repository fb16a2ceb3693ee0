use Rattle.vf_desk.proofs.CallLaws.{does}
use Rattle.vf_desk.proofs.c_heap.vf_desk_release.Goals as goal

pub returns : goal.returns
returns c = does c.args.desk.now c.release.ensures c.step.ensures.said c.step.ensures.desk c.step.ensures.rest c.step.ensures.refused c.status.ensures
