use Rattle.rh_lent_slot.proofs.Common.{arith, lent_pages_memory}
use Rattle.rh_lent_slot.proofs.Over.{lent_length, written}
use Rattle.rh_lent_slot.proofs.pages_mut.LentPagesMutWordsMut.copy_in.Goals as goal

pub put_in-requires : goal.put_in-requires
put_in-requires c =
    omega (arith, lent_length c.args.self.now c.args._id.0 c.requires.opened, c.args.self.now.within, c.requires.within)

pub returns : goal.returns
unfolding lent_pages_memory
returns c =
    written c.args.self.now c.args._id.0 c.requires.opened c.put_in.new.b c.args.at c.args.from.now
    c.put_in.ensures c.requires.within
