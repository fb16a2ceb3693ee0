use Rattle.std.proofs.Common.{List, ℕ, length, sym, ap, ◌∙◌, arith}
use Rattle.rh_defs.specs.Bytes.{word}
use Rattle.rh_lent_heap.proofs.Over.{lent_bytes}
use Rattle.rh_lent_heap.proofs.lent_mut.LentMutWords.word.Goals as goal

pub word_in-requires : goal.word_in-requires
word_in-requires c =
    omega (arith, ap length (lent_bytes c.args.self.now c.args._id.0 c.requires.opened), c.requires.within)

pub returns : goal.returns
returns c =
    let is = lent_bytes c.args.self.now c.args._id.0 c.requires.opened in
    c.word_in.ensures ∙ ap (λ (b : List ℕ). word b c.args.at) (sym is)
