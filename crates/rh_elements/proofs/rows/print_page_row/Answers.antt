use Rattle.rh_elements.proofs.Common.{append_assoc, append-nil}
use Rattle.rh_elements.proofs.rows.print_page_row.Goals as goal

pub returns : goal.returns
returns g c = simp (c.print_chip.ensures, c.print_page_box.ensures, c.print_pieces.ensures, append_assoc, append-nil)
