use Rattle.std.proofs.Common.{arith, subst}
use Rattle.std.specs.Prelude.{IfSome}
use Rattle.rh_defs.specs.Memory.{bytes}
use Rattle.rh_heap_index.specs.Maps.{IsKeptMap, map_of}
use Rattle.rh_heap_index.proofs.KeptLaws.{taken}
use Rattle.rh_heap_index.proofs.indexed_store.IndexedStoreWordsMut.take_starts.Goals as goal

pub returns-then-is_enough-clause-kept : goal.returns-then-is_enough-clause-kept
returns-then-is_enough-clause-kept g c =
    let maps = c.self.inside.maps in
    let kept = subst (λ s. IfSome (map_of maps.items c.args.id.0) (IsKeptMap (bytes (g.S.Words.memory s) c.args.id.0))) c.self.view_is
    (c.self.invariant.kept c.args.id.0) in
    taken (IsKeptMap _) maps.items c.args.id.0 c.index_mut.result.now c.in-Some.starts (omega (arith, maps.ok.0, c.len.ensures)) c.index_mut.ensures.value
    c.in-Some.ensures.value kept
