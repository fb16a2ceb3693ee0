use Rattle.rh_laws.proofs.ScrapEnds.{always-leaves-none}
use Rattle.rh_laws.proofs.file_ends.file_end_law.Goals as goal

pub returns : goal.returns
returns c = always-leaves-none
