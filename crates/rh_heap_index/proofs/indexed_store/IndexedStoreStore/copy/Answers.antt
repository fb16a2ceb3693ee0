use Rattle.std.proofs.Common.{arith}
use Rattle.rh_defs.specs.Bytes.{part}
use Rattle.rh_defs.specs.Memory.{bytes}
use Rattle.rh_defs.proofs.BytesLaws.{length-part, put_outside}
use Rattle.rh_heap_index.proofs.KeptLaws.{kept_written}
use Rattle.rh_heap_index.proofs.indexed_store.IndexedStoreStore.copy.Goals as goal

pub invariant_of-self : goal.invariant_of-self
invariant_of-self g c =
    let m = g.S.Words.memory c.self.inside.store in
    let xs = part (bytes m c.args.id.0) c.args.at c.args.n in
    rw c.copy.ensures (kept_written m _ _ _ c.args.id2.0 c.args.at2 _ _ c.self.invariant c.forget.ensures
    (put_outside (bytes m c.args.id2.0) c.args.at2 xs _ (omega (arith, length-part (bytes m c.args.id.0) c.args.at c.args.n))))
