use Rattle.rh_sheet.proofs.Ends.{ends-all}
use Rattle.rh_sheet.proofs.laws.elements_law.Goals as goal

pub returns : goal.returns
returns c = ends-all
