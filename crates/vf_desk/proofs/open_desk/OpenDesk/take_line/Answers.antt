use Rattle.vf_desk.proofs.Common.{Some, refl}
use Rattle.vf_desk.proofs.LineLaws.{takes-closed, takes-open}
use Rattle.vf_desk.proofs.open_desk.OpenDesk.take_line.Goals as goal

pub returns-in-None : goal.returns-in-None
returns-in-None c = takes-closed c.in-None.is

pub returns-in-Some : goal.returns-in-Some
returns-in-Some c = takes-open (Some c.args.self.now) _ _ _ c.in-Some.is refl refl c.take_line.ensures.desk c.take_line.ensures.said
