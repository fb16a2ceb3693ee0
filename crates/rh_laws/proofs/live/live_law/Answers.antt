use Rattle.rh_laws.proofs.PlayedLaws.{always-has-live-ends, always-has-live-ends-beside}
use Rattle.rh_laws.proofs.live.live_law.Goals as goal

pub returns-clause-beside : goal.returns-clause-beside
returns-clause-beside c = always-has-live-ends-beside

pub returns-clause-all : goal.returns-clause-all
returns-clause-all c = always-has-live-ends
