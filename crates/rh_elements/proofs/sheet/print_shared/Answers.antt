use Rattle.rh_elements.proofs.Common.{append_assoc, append-nil}
use Rattle.rh_elements.proofs.sheet.print_shared.Goals as goal

pub returns : goal.returns
returns g c = simp (c.put.ensures, c.put_signs.ensures, c.print_grid.ensures, c.put-2.ensures, append_assoc, append-nil)
