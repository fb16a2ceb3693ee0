use Rattle.std.proofs.Common.{length, sym, ap}
use Rattle.rh_lent_heap.proofs.Over.{shown_bytes}
use Rattle.rh_lent_heap.proofs.lent.LentWords.len.Goals as goal

pub returns : goal.returns
returns c = ap length (sym (shown_bytes c.args.self.now c.args._id.0 c.requires))
