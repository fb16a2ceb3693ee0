use Rattle.std.proofs.Common.{length, sym, ap}
use Rattle.rh_lent_heap.proofs.Over.{lent_bytes}
use Rattle.rh_lent_heap.proofs.lent_mut.LentMutWords.len.Goals as goal

pub returns : goal.returns
returns c = ap length (sym (lent_bytes c.args.self.now c.args._id.0 c.requires))
