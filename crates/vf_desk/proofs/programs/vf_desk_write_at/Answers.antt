use Rattle.std.proofs.Common.{refl}
use Rattle.vf_desk.proofs.CallLaws.{does}
use Rattle.vf_desk.proofs.programs.vf_desk_write_at.Goals as goal

pub returns : goal.returns
returns c =
    does c.args.desk.now refl c.write_at.ensures.said c.write_at.ensures.desk c.write_at.ensures.rest c.write_at.ensures.refused c.status.ensures
