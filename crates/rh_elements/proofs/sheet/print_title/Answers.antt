use Rattle.rh_elements.proofs.Common.{append_assoc, append-nil}
use Rattle.rh_elements.proofs.sheet.print_title.Goals as goal

pub returns : goal.returns
returns g c = simp (c.put.ensures, c.put_remark.ensures, c.put-2.ensures, c.put_style.ensures, c.put-3.ensures, append_assoc, append-nil)
