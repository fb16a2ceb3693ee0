use Rattle.rh_wimp.proofs.BesideLaws.{claims-beside, frees-beside, resizes-beside, changes-beside}
use Rattle.rh_wimp.proofs.laws.beside_law.Goals as goal

pub returns-clause-claim : goal.returns-clause-claim
returns-clause-claim c = claims-beside

pub returns-clause-free : goal.returns-clause-free
returns-clause-free c = frees-beside

pub returns-clause-resize : goal.returns-clause-resize
returns-clause-resize c = resizes-beside

pub returns-clause-change : goal.returns-clause-change
returns-clause-change c = changes-beside
