use Rattle.vf_desk.proofs.Common.{refl}
use Rattle.vf_desk.proofs.CallLaws.{does}
use Rattle.vf_desk.proofs.areas.vf_desk_rma_free.Goals as goal

pub returns : goal.returns
returns c = does c.args.desk.now refl c.step.ensures.said c.step.ensures.desk c.step.ensures.rest c.step.ensures.refused
    c.status.ensures
