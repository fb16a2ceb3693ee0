use Rattle.rh_lent_heap.proofs.Common.{List, ℕ, ap, length, arith, with_part, part, lent_memory}
use Rattle.rh_lent_heap.proofs.Over.{lent_bytes, edited}
use Rattle.rh_lent_heap.proofs.lent_mut.LentMutWordsMut.slide.Goals as goal

pub slide_in-requires-clause-source : goal.slide_in-requires-clause-source
slide_in-requires-clause-source c =
    omega (arith, ap length (lent_bytes c.args.self.now c.args._id.0 c.requires.opened), c.requires.source)

pub slide_in-requires-clause-target : goal.slide_in-requires-clause-target
slide_in-requires-clause-target c =
    omega (arith, ap length (lent_bytes c.args.self.now c.args._id.0 c.requires.opened), c.requires.target)

pub returns : goal.returns
unfolding lent_memory
returns c =
    edited c.args.self.now c.args._id.0
    (λ (b : List ℕ). with_part b c.args.to (part b c.args.from c.args.n)) c.slide_in.new.b c.requires.opened c.slide_in.ensures
