use Rattle.rh_safety.proofs.SeenLaws.{always}
use Rattle.rh_safety.proofs.Alternations.{alternates}
use Rattle.rh_safety.proofs.Played.{all_alternate}
use Rattle.rh_safety.specs.Alternation.{Alternates}
use Rattle.rh_safety.proofs.laws.alternation_law.Goals as goal

pub returns-clause-turns : goal.returns-clause-turns
returns-clause-turns c = always Alternates alternates

pub returns-clause-all : goal.returns-clause-all
returns-clause-all c = all_alternate
