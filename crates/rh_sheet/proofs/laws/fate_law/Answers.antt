use Rattle.rh_sheet.proofs.Dated.{has-one-fate}
use Rattle.rh_sheet.proofs.laws.fate_law.Goals as goal

pub returns : goal.returns
returns c = has-one-fate
