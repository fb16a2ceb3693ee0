use Rattle.rh_lent_heap.proofs.Common.{List, ℕ, ap, length, replicate, arith, with_part, lent_memory}
use Rattle.rh_lent_heap.proofs.Over.{lent_bytes, edited}
use Rattle.rh_lent_heap.proofs.lent_mut.LentMutWordsMut.zero.Goals as goal

pub zero_in-requires : goal.zero_in-requires
zero_in-requires c =
    omega (arith, ap length (lent_bytes c.args.self.now c.args._id.0 c.requires.opened), c.requires.within)

pub returns : goal.returns
unfolding lent_memory
returns c =
    edited c.args.self.now c.args._id.0
    (λ (b : List ℕ). with_part b c.args.at (replicate c.args.n 0)) c.zero_in.new.b c.requires.opened c.zero_in.ensures
