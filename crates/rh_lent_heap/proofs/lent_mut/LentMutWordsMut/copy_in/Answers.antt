use Rattle.rh_lent_heap.proofs.Common.{List, ℕ, ap, length, arith, with_part, lent_memory}
use Rattle.rh_lent_heap.proofs.Over.{lent_bytes, edited}
use Rattle.rh_lent_heap.proofs.lent_mut.LentMutWordsMut.copy_in.Goals as goal

pub put_in-requires : goal.put_in-requires
put_in-requires c =
    omega (arith, ap length (lent_bytes c.args.self.now c.args._id.0 c.requires.opened), c.requires.within)

pub returns : goal.returns
unfolding lent_memory
returns c =
    edited c.args.self.now c.args._id.0
    (λ (b : List ℕ). with_part b c.args.at c.args.from.now) c.put_in.new.b c.requires.opened c.put_in.ensures
