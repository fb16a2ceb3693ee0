use Rattle.rh_lent_heap.proofs.Common.{List, ℕ, length, sym, ap, ◌∙◌, arith, part}
use Rattle.rh_lent_heap.proofs.Over.{lent_bytes}
use Rattle.rh_lent_heap.proofs.lent_mut.LentMutWords.copy_out.Goals as goal

pub copy_from-requires : goal.copy_from-requires
copy_from-requires c =
    omega (arith, ap length (lent_bytes c.args.self.now c.args._id.0 c.requires.opened), c.requires.within)

pub returns : goal.returns
returns c =
    let is = lent_bytes c.args.self.now c.args._id.0 c.requires.opened in
    c.copy_from.ensures ∙ ap (λ (b : List ℕ). part b c.args.at (length c.args.to.now)) (sym is)
