use Rattle.std.proofs.Common.{arith}
use Rattle.rh_defs.specs.Memory.{bytes}
use Rattle.rh_defs.proofs.BytesLaws.{put_outside}
use Rattle.rh_heap_index.proofs.KeptLaws.{kept_written}
use Rattle.rh_heap_index.proofs.indexed_store.IndexedStoreWordsMut.copy_in.Goals as goal

pub invariant_of-self : goal.invariant_of-self
invariant_of-self g c =
    rw c.copy_in.ensures (kept_written (g.S.Words.memory c.self.inside.store) _ _ _ c.args.id.0 c.args.at _ _ c.self.invariant c.forget.ensures
    (put_outside (bytes (g.S.Words.memory c.self.inside.store) c.args.id.0) c.args.at c.args.from.now _ (omega arith)))
