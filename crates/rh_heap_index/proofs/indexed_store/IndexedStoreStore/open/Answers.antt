use Rattle.rh_heap_index.proofs.KeptLaws.{kept_open}
use Rattle.rh_heap_index.proofs.indexed_store.IndexedStoreStore.open.Goals as goal

pub invariant_of-self : goal.invariant_of-self
invariant_of-self g c =
    record {
      kept = kept_open (g.S.Words.memory c.self.inside.store) (g.S.Words.memory c.open.new.self) _ c.open.result c.self.invariant.kept
          c.open.ensures.ok c.open.ensures.err;
      laid = c.self.invariant.laid;
      reached = c.self.invariant.reached;
    }
