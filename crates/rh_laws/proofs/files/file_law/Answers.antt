use Rattle.rh_laws.proofs.FileSteps.{keeps-scrap}
use Rattle.rh_laws.proofs.files.file_law.Goals as goal

pub returns : goal.returns
returns c = keeps-scrap
