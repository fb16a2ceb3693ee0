use Rattle.rh_laws.proofs.CancelLaws.{always-cancels-end}
use Rattle.rh_laws.proofs.cancels.cancel_law.Goals as goal

pub returns : goal.returns
returns c = always-cancels-end
