use Rattle.rh_figure.proofs.Alike.{no-order}
use Rattle.rh_figure.proofs.laws.map_order_law.Goals as goal

pub returns : goal.returns
returns c = no-order
