use Rattle.rh_laws.proofs.DoneLaws.{always-matches}
use Rattle.rh_laws.proofs.done.done_law.Goals as goal

pub returns : goal.returns
returns c = always-matches
