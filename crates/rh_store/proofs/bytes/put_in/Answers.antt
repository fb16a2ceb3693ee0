use Rattle.rh_store.proofs.Common.{arith, written}
use Rattle.rh_store.proofs.bytes.put_in.Goals as goal

pub returns : goal.returns
returns c = written c.args.at _ c.args.b.now _ c.args.from.now c.copy_from_slice.ensures.after (omega arith) c.requires
