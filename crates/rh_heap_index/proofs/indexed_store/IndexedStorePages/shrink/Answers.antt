use Rattle.std.proofs.Common.{◌*◌, ◌≤◌, length, sym, subst}
use Rattle.rh_defs.specs.declared.sizes.TheConstants.{PAGE}
use Rattle.rh_defs.specs.Memory.{bytes}
use Rattle.rh_heap_index.proofs.KeptLaws.{kept_shrunk}
use Rattle.rh_heap_index.proofs.indexed_store.IndexedStorePages.shrink.Goals as goal

pub invariant_of-self : goal.invariant_of-self
invariant_of-self g c =
    let within = subst (λ s. PAGE * c.args.pages ≤ length (bytes (g.S.Words.memory s) c.args.id.0)) (sym c.self.view_is) c.requires.within in
    rw c.shrink.ensures (kept_shrunk (g.S.Words.memory c.self.inside.store) _ _ _ c.args.id.0 c.args.pages within c.self.invariant
    (rw c.len-end.ensures at c.forget.ensures))
