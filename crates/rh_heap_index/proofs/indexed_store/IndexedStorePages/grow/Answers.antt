use Rattle.rh_heap_index.proofs.KeptLaws.{kept_grow}
use Rattle.rh_heap_index.proofs.indexed_store.IndexedStorePages.grow.Goals as goal

pub invariant_of-self : goal.invariant_of-self
invariant_of-self g c =
    record {
      kept = kept_grow (g.S.Words.memory c.self.inside.store) (g.S.Words.memory c.grow.new.self) _ c.args.id.0 c.args.pages c.grow.result
          c.self.invariant.kept c.grow.ensures.ok c.grow.ensures.err;
      laid = c.self.invariant.laid;
      reached = c.self.invariant.reached;
    }

pub invariant_of-self-2 : goal.invariant_of-self-2
invariant_of-self-2 g c =
    record {
      kept = kept_grow (g.S.Words.memory c.self.inside.store) (g.S.Words.memory c.grow.new.self) _ c.args.id.0 c.args.pages c.grow.result
          c.self.invariant.kept c.grow.ensures.ok c.grow.ensures.err;
      laid = c.self.invariant.laid;
      reached = c.self.invariant.reached;
    }
