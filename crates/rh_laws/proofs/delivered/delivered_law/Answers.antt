use Rattle.rh_laws.proofs.DeliveryLaws.{all-deliver, always-delivers}
use Rattle.rh_laws.proofs.delivered.delivered_law.Goals as goal

pub returns-clause-told : goal.returns-clause-told
returns-clause-told c = always-delivers

pub returns-clause-all : goal.returns-clause-all
returns-clause-all c = all-deliver
