use Rattle.rh_laws.proofs.ShownLaws.{always-shows-own, always-shows-own-marks}
use Rattle.rh_laws.proofs.shown.shown_law.Goals as goal

pub returns-clause-bytes : goal.returns-clause-bytes
returns-clause-bytes c = always-shows-own

pub returns-clause-marks : goal.returns-clause-marks
returns-clause-marks c = always-shows-own-marks
