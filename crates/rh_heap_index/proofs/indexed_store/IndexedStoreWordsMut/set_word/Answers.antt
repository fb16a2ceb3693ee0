use Rattle.std.proofs.Common.{arith}
use Rattle.rh_defs.specs.Memory.{bytes}
use Rattle.rh_defs.proofs.BytesLaws.{put_word_outside}
use Rattle.rh_heap_index.proofs.KeptLaws.{kept_written}
use Rattle.rh_heap_index.proofs.indexed_store.IndexedStoreWordsMut.set_word.Goals as goal

pub invariant_of-self : goal.invariant_of-self
invariant_of-self g c = rw c.set_word.ensures (kept_written (g.S.Words.memory c.self.inside.store) _ _ _ c.args.id.0 c.args.at _ _ c.self.invariant
    c.forget.ensures (put_word_outside (bytes (g.S.Words.memory c.self.inside.store) c.args.id.0) c.args.at c.args.w _ (omega arith)))
