use Rattle.rh_safety.proofs.SeenLaws.{always}
use Rattle.rh_laws.specs.RecordLives.{RecordsLive}
use Rattle.rh_laws.proofs.RecordLifeLaws.{records-live}
use Rattle.rh_laws.proofs.records.records_law.Goals as goal

pub returns : goal.returns
returns c = always RecordsLive records-live
