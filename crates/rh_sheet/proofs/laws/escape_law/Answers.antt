use Rattle.rh_sheet.proofs.Escapes.{escapes-all}
use Rattle.rh_sheet.proofs.laws.escape_law.Goals as goal

pub returns : goal.returns
returns c = escapes-all
