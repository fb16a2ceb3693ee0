use Rattle.rh_sheet.proofs.Alike.{no-order}
use Rattle.rh_sheet.proofs.laws.sheet_order_law.Goals as goal

pub returns : goal.returns
returns c = no-order
