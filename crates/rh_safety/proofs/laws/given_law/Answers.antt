use Rattle.rh_safety.proofs.GivenLaws.{always_holds_given}
use Rattle.rh_safety.proofs.laws.given_law.Goals as goal

pub returns : goal.returns
returns c = always_holds_given
