use Rattle.std.proofs.Common.{length, ◌∙◌, arith}
use Rattle.rh_lent_slot.proofs.Over.{lent_length, part_in}
use Rattle.rh_lent_slot.proofs.pages_mut.LentPagesMutWords.copy_out.Goals as goal

pub copy_from-requires : goal.copy_from-requires
copy_from-requires c =
    omega (arith, lent_length c.args.self.now c.args._id.0 c.requires.opened, c.args.self.now.within, c.requires.within)

pub returns : goal.returns
returns c =
    c.copy_from.ensures
    ∙ part_in c.args.self.now c.args._id.0 c.requires.opened c.args.at (length c.args.to.now) c.requires.within
