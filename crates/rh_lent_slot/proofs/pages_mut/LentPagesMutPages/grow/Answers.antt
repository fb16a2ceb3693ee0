use Rattle.rh_lent_slot.proofs.Common.{arith, lent_pages_memory, pages_memory_over}
use Rattle.rh_lent_slot.proofs.Over.{grew}
use Rattle.rh_lent_slot.proofs.pages_mut.LentPagesMutPages.grow.Goals as goal

pub returns-clause-ok : goal.returns-clause-ok
unfolding lent_pages_memory pages_memory_over
returns-clause-ok c =
    grew c.args.self.now c.args._id.0 c.requires c.zero_in.new.b c.args.pages
    (omega (arith, c.if-free_pages-pages.false, c.free_pages.ensures, c.args.self.now.within)) c.zero_in.ensures
