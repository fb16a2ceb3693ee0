use Rattle.std.proofs.Common.{◌∙◌, arith}
use Rattle.rh_lent_slot.proofs.Over.{shown_length, shown_word}
use Rattle.rh_lent_slot.proofs.pages.LentPagesWords.word.Goals as goal

pub word_in-requires : goal.word_in-requires
word_in-requires c =
    omega (arith, shown_length c.args.self.now c.args._id.0 c.requires.opened, c.args.self.now.within, c.requires.within)

pub returns : goal.returns
returns c = c.word_in.ensures ∙ shown_word c.args.self.now c.args._id.0 c.requires.opened c.args.at c.requires.within
