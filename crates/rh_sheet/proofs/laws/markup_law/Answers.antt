use Rattle.rh_sheet.proofs.Retold.{says-no-markup}
use Rattle.rh_sheet.proofs.laws.markup_law.Goals as goal

pub returns : goal.returns
returns c = says-no-markup
