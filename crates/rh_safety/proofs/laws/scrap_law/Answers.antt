use Rattle.rh_safety.proofs.Played.{owns_any}
use Rattle.rh_safety.proofs.ScrapLaws.{always_owns_scrap_file}
use Rattle.rh_safety.proofs.laws.scrap_law.Goals as goal

pub returns-clause-files : goal.returns-clause-files
returns-clause-files c = always_owns_scrap_file

pub returns-clause-all : goal.returns-clause-all
returns-clause-all c = owns_any
