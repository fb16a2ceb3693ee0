use Rattle.std.proofs.Common.{sym}
use Rattle.rh_lent_slot.proofs.Over.{lent_length}
use Rattle.rh_lent_slot.proofs.pages_mut.LentPagesMutWords.len.Goals as goal

pub returns : goal.returns
returns c = sym (lent_length c.args.self.now c.args._id.0 c.requires)
