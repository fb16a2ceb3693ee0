use Rattle.std.proofs.Common.{rules, ◌≡◌, ◌<◌, true, length, sym, subst}
use Rattle.rh_defs.specs.Memory.{bytes}
use Rattle.rh_store.specs.Starts.{IsMapOf}
use Rattle.rh_heap_index.proofs.KeptLaws.{tied_set}
use Rattle.rh_heap_index.proofs.indexed_store.IndexedStoreWordsMut.keep_starts.Goals as goal

pub invariant_of-self : goal.invariant_of-self
invariant_of-self g c =
    let room : c.args.id.0 < length c.self.inside.reach = search rules in
    let is = subst (λ s. c.args.known ≡ true → IsMapOf c.args.lines.items c.args.split (bytes (g.S.Words.memory s) c.args.id.0) c.args.at c.args.upper)
    (sym c.self.view_is) c.requires.map in
    tied_set c.self.inside.maps.items c.args.id.0 _ (g.S.Words.memory c.self.inside.store) c.self.inside.reach room c.self.invariant is c.requires.rows
