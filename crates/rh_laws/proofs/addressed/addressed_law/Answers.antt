use Rattle.rh_laws.proofs.AddressLaws.{always-addressed}
use Rattle.rh_laws.proofs.addressed.addressed_law.Goals as goal

pub returns : goal.returns
returns c = always-addressed
