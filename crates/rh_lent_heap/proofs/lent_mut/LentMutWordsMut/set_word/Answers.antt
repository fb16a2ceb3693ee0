use Rattle.rh_lent_heap.proofs.Common.{List, ℕ, ap, length, arith, lent_memory}
use Rattle.rh_defs.specs.Bytes.{put_word}
use Rattle.rh_lent_heap.proofs.Over.{lent_bytes, edited}
use Rattle.rh_lent_heap.proofs.lent_mut.LentMutWordsMut.set_word.Goals as goal

pub put_word_in-requires : goal.put_word_in-requires
put_word_in-requires c =
    omega (arith, ap length (lent_bytes c.args.self.now c.args._id.0 c.requires.opened), c.requires.within)

pub returns : goal.returns
unfolding lent_memory
returns c =
    edited c.args.self.now c.args._id.0
    (λ (b : List ℕ). put_word b c.args.at c.args.w) c.put_word_in.new.b c.requires.opened c.put_word_in.ensures
