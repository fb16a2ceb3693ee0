use Rattle.std.proofs.Common.{arith}
use Rattle.rh_defs.specs.Bytes.{part}
use Rattle.rh_defs.specs.Memory.{bytes}
use Rattle.rh_defs.proofs.BytesLaws.{length-part, put_outside}
use Rattle.rh_heap_index.proofs.KeptLaws.{kept_written}
use Rattle.rh_heap_index.proofs.indexed_store.IndexedStoreWordsMut.slide.Goals as goal

pub invariant_of-self : goal.invariant_of-self
invariant_of-self g c =
    let b = bytes (g.S.Words.memory c.self.inside.store) c.args.id.0 in
    rw c.slide.ensures (kept_written (g.S.Words.memory c.self.inside.store) _ _ _ c.args.id.0 c.args.to _ _ c.self.invariant c.forget.ensures
    (put_outside b c.args.to (part b c.args.from c.args.n) _ (omega (arith, length-part b c.args.from c.args.n))))
