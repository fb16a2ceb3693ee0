use Rattle.rh_figure.proofs.Columns.{are-maps}
use Rattle.rh_figure.proofs.laws.columns_law.Goals as goal

pub returns : goal.returns
returns c = are-maps
