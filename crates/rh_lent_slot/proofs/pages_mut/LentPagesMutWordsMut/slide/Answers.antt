use Rattle.rh_lent_slot.proofs.Common.{arith, lent_pages_memory}
use Rattle.rh_lent_slot.proofs.Over.{lent_length, slid}
use Rattle.rh_lent_slot.proofs.pages_mut.LentPagesMutWordsMut.slide.Goals as goal

pub slide_in-requires-clause-source : goal.slide_in-requires-clause-source
slide_in-requires-clause-source c =
    omega (arith, lent_length c.args.self.now c.args._id.0 c.requires.opened, c.args.self.now.within, c.requires.source)

pub slide_in-requires-clause-target : goal.slide_in-requires-clause-target
slide_in-requires-clause-target c =
    omega (arith, lent_length c.args.self.now c.args._id.0 c.requires.opened, c.args.self.now.within, c.requires.target)

pub returns : goal.returns
unfolding lent_pages_memory
returns c =
    slid c.args.self.now c.args._id.0 c.requires.opened c.slide_in.new.b c.args.from c.args.to c.args.n
    c.slide_in.ensures c.requires.source c.requires.target
