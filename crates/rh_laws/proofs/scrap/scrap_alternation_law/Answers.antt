use Rattle.rh_safety.proofs.SeenLaws.{always}
use Rattle.rh_laws.specs.ScrapTurns.{ScrapAlternates}
use Rattle.rh_laws.proofs.ScrapTurns.{all_scrap_alternate, scrap_alternates}
use Rattle.rh_laws.proofs.scrap.scrap_alternation_law.Goals as goal

pub returns-clause-turns : goal.returns-clause-turns
returns-clause-turns c = always ScrapAlternates scrap_alternates

pub returns-clause-all : goal.returns-clause-all
returns-clause-all c = all_scrap_alternate
