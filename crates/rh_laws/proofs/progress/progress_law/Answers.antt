use Rattle.rh_laws.proofs.ProgressLaws.{always-progresses}
use Rattle.rh_laws.proofs.progress.progress_law.Goals as goal

pub returns : goal.returns
returns c = always-progresses
