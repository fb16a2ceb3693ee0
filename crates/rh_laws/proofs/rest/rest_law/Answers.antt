use Rattle.rh_laws.proofs.PlayedLaws.{always-settles, always-settles-beside}
use Rattle.rh_laws.proofs.rest.rest_law.Goals as goal

pub returns-clause-beside : goal.returns-clause-beside
returns-clause-beside c = always-settles-beside

pub returns-clause-all : goal.returns-clause-all
returns-clause-all c = always-settles
