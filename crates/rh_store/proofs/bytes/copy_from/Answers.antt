use Rattle.std.proofs.Common.{refl, arith}
use Rattle.rh_store.proofs.Slices.{read_out}
use Rattle.rh_store.proofs.bytes.copy_from.Goals as goal

pub returns : goal.returns
returns c = read_out c.args.b.now _ c.args.at _ _ _ c.copy_from_slice.ensures.after (omega arith) refl c.requires
