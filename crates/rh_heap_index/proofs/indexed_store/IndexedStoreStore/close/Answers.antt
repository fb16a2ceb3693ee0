use Rattle.rh_heap_index.proofs.KeptLaws.{kept_closed}
use Rattle.rh_heap_index.proofs.indexed_store.IndexedStoreStore.close.Goals as goal

pub invariant_of-self : goal.invariant_of-self
invariant_of-self g c = rw c.close.ensures (kept_closed (g.S.Words.memory c.self.inside.store) _ _ _ c.args.id.0 c.self.invariant c.spoil.ensures)
