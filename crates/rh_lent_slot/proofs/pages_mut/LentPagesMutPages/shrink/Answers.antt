use Rattle.rh_lent_slot.proofs.Common.{arith, lent_pages_memory}
use Rattle.rh_lent_slot.proofs.Over.{lent_length, shrank}
use Rattle.rh_lent_slot.proofs.pages_mut.LentPagesMutPages.shrink.Goals as goal

pub overflow_sub-self : goal.overflow_sub-self
overflow_sub-self c =
    omega (arith, lent_length c.args.self.now c.args._id.0 c.requires.opened, c.requires.within)

pub returns : goal.returns
unfolding lent_pages_memory
returns c = shrank c.args.self.now c.args._id.0 c.requires.opened c.args.pages c.requires.within
