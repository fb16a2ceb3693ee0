use Rattle.rh_store.proofs.Common.{refl, arith, part, length-part, written}
use Rattle.rh_store.proofs.Slices.{read_out}
use Rattle.rh_store.proofs.bytes.copy_over.Goals as goal

pub returns : goal.returns
returns c =
    let len = length-part c.args.from.now c.args.at c.args.n in
    written c.args.at2 _ c.args.to.now _ (part c.args.from.now c.args.at c.args.n)
    (read_out c.args.from.now _ c.args.at _ c.args.n c.args.n c.copy_from_slice.ensures.after (omega arith) refl c.requires.source) (omega arith) (omega arith)
