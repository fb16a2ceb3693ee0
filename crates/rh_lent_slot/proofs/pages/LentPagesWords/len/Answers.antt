use Rattle.std.proofs.Common.{sym}
use Rattle.rh_lent_slot.proofs.Over.{shown_length}
use Rattle.rh_lent_slot.proofs.pages.LentPagesWords.len.Goals as goal

pub returns : goal.returns
returns c = sym (shown_length c.args.self.now c.args._id.0 c.requires)
