use Rattle.std.proofs.Common.{ℕ, arith}
use Rattle.std.proofs.lemmas.List.{length-replicate}
use Rattle.std.specs.Prelude.{replicate}
use Rattle.rh_defs.specs.Memory.{bytes}
use Rattle.rh_defs.proofs.BytesLaws.{put_outside}
use Rattle.rh_heap_index.proofs.KeptLaws.{kept_written}
use Rattle.rh_heap_index.proofs.indexed_store.IndexedStoreWordsMut.zero.Goals as goal

pub invariant_of-self : goal.invariant_of-self
invariant_of-self g c =
    rw c.zero.ensures (kept_written (g.S.Words.memory c.self.inside.store) _ _ _ c.args.id.0 c.args.at _ _ c.self.invariant c.forget.ensures
    (put_outside (bytes (g.S.Words.memory c.self.inside.store) c.args.id.0) c.args.at (replicate c.args.n 0) _
    (omega (arith, length-replicate {A = ℕ} c.args.n 0))))
