use Rattle.rh_sheet.proofs.Inside.{lies-inside}
use Rattle.rh_sheet.proofs.laws.inside_law.Goals as goal

pub returns : goal.returns
returns c = lies-inside
