use Rattle.rh_laws.proofs.MovedLaws.{always-sends-offered}
use Rattle.rh_laws.proofs.moved.moved_law.Goals as goal

pub returns : goal.returns
returns c = always-sends-offered
