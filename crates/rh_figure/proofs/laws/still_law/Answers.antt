use Rattle.rh_figure.proofs.Still.{keeps-still}
use Rattle.rh_figure.proofs.laws.still_law.Goals as goal

pub returns : goal.returns
returns c = keeps-still
