use Rattle.rh_safety.proofs.Numbers.{always-own-refs, numbers-go-up}
use Rattle.rh_safety.proofs.laws.numbers_law.Goals as goal

pub returns-clause-numbers : goal.returns-clause-numbers
returns-clause-numbers c = numbers-go-up

pub returns-clause-refs : goal.returns-clause-refs
returns-clause-refs c = always-own-refs
