use Rattle.std.proofs.Common.{arith}
use Rattle.rh_slot.proofs.PageLaws.{Edited-put}
use Rattle.rh_slot.proofs.area.write_bytes.Goals as goal

pub returns-clause-only : goal.returns-clause-only
returns-clause-only g c = Edited-put _ _ _ _ _ _ c.copy_in.ensures (omega arith)
