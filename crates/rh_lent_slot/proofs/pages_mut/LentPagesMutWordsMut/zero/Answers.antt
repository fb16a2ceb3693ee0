use Rattle.rh_lent_slot.proofs.Common.{ℕ, replicate, arith, length-replicate, lent_pages_memory}
use Rattle.rh_lent_slot.proofs.Over.{lent_length, written}
use Rattle.rh_lent_slot.proofs.pages_mut.LentPagesMutWordsMut.zero.Goals as goal

pub zero_in-requires : goal.zero_in-requires
zero_in-requires c =
    omega (arith, lent_length c.args.self.now c.args._id.0 c.requires.opened, c.args.self.now.within, c.requires.within)

pub returns : goal.returns
unfolding lent_pages_memory
returns c =
    written c.args.self.now c.args._id.0 c.requires.opened c.zero_in.new.b c.args.at (replicate c.args.n 0)
    c.zero_in.ensures (omega (arith, length-replicate {A = ℕ} c.args.n 0, c.requires.within))
