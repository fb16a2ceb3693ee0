use Rattle.rh_defs.proofs.Steps.{order-ignored}
use Rattle.rh_defs.proofs.laws.order_law.Goals as goal

pub returns : goal.returns
returns c = order-ignored
