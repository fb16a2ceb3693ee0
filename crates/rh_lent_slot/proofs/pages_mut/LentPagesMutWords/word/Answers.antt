use Rattle.std.proofs.Common.{◌∙◌, arith}
use Rattle.rh_lent_slot.proofs.Over.{lent_length, word_in}
use Rattle.rh_lent_slot.proofs.pages_mut.LentPagesMutWords.word.Goals as goal

pub word_in-requires : goal.word_in-requires
word_in-requires c =
    omega (arith, lent_length c.args.self.now c.args._id.0 c.requires.opened, c.args.self.now.within, c.requires.within)

pub returns : goal.returns
returns c = c.word_in.ensures ∙ word_in c.args.self.now c.args._id.0 c.requires.opened c.args.at c.requires.within
