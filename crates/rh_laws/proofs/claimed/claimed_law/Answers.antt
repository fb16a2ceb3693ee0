use Rattle.rh_laws.proofs.AccountLaws.{always-leaks-none}
use Rattle.rh_laws.proofs.claimed.claimed_law.Goals as goal

pub returns : goal.returns
returns c = always-leaks-none
