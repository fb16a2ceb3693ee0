use Rattle.rh_lens.proofs.Rows.{stands-apart}
use Rattle.rh_lens.proofs.laws.rows_law.Goals as goal

pub returns : goal.returns
returns c = stands-apart
