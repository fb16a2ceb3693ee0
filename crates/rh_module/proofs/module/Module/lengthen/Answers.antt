-- The area has grown by zeros, and the heap's end moves up to the area's.
use Rattle.rh_module.proofs.Common.{◌≡◌, ◌*◌, ◌≤◌, to_z, refl, subst, arith, w32, Ok, PAGE, left_of, no_answer, extended, module_heap_in}
use Rattle.rh_defs.specs.Heap.{extend_by}
use Rattle.rh_defs.proofs.HeapCalls.{extend-done}
use Rattle.rh_heap.specs.HeapSpans as spans
use Rattle.rh_module.proofs.LengthLaws.{MayMove, grown_may_move, lengthened, only_lengthened}
use Rattle.rh_module.proofs.module.Module.lengthen.Goals as goal
use Rattle.rh_module.proofs.module.Module.lengthen.Goals.{After-span}
use Rattle.rh_module.proofs.module.Module.lengthen.Given as given
use Rattle.rh_store.specs.Limits.{pool_limit}

may_move : (g : given.Over) (c : After-span g)
    → MayMove (g.S.Words.memory c.grow.new.self) c.args.self c.span.result (module_heap_in (g.S.Words.memory c.args.store.now) c.args.self) c.args.pages
    (to_z w32 (c.args.pages * PAGE))
may_move g c =
    let few : c.args.pages ≤ pool_limit =
    omega (arith, c.in-Ok.ensures.room, g.met.S.Pages.few c.args.store.now, g.met.S.Pages.within c.args.store.now c.args.self.area.0) in
    grown_may_move (g.S.Words.memory c.args.store.now) (g.S.Words.memory c.grow.new.self) c.args.self c.span.result c.args.pages c.requires
    c.in-Ok.ensures.ok c.span.ensures few

-- the end is moved up, so it is not refused
moves : (g : given.Over) (c : After-span g)
    → let h = spans.heap_in (g.S.Words.memory c.grow.new.self) c.span.result in let delta =
    to_z w32 (c.args.pages * PAGE) in extend_by delta h ≡ Ok (extended delta h)
moves g c = extend-done (to_z w32 (c.args.pages * PAGE)) (spans.heap_in (g.S.Words.memory c.grow.new.self) c.span.result) (may_move g c).high

pub extend_heap-requires-clause-span : goal.extend_heap-requires-clause-span
extend_heap-requires-clause-span g c = (may_move g c).there

pub extend_heap-requires-clause-multiple : goal.extend_heap-requires-clause-multiple
extend_heap-requires-clause-multiple g c = (may_move g c).multiple

pub extend_heap-requires-clause-within : goal.extend_heap-requires-clause-within
extend_heap-requires-clause-within g c = (may_move g c).within

pub unwrap-requires : goal.unwrap-requires
unwrap-requires g c = let e = moves g (goal.at.unwrap-requires g c).After-span in rw (c.extend_heap.ensures.answer, e) refl

pub returns-clause-spells : goal.returns-clause-spells
returns-clause-spells g c =
    let k = (goal.at.returns-clause-spells g c).After-span in
    let h = spans.heap_in (g.S.Words.memory c.grow.new.self) c.span.result in
    lengthened (g.S.Words.memory c.grow.new.self) (g.S.Words.memory c.extend_heap.new.store) c.args.self c.span.result _ c.args.pages _ (may_move g k)
    c.span.ensures c.extend_heap.ensures.only
    (subst (λ r. spans.SpellsHeapIn (g.S.Words.memory c.extend_heap.new.store) c.span.result (left_of h (no_answer r)))
    (moves g k) c.extend_heap.ensures.spells)

pub returns-clause-only : goal.returns-clause-only
returns-clause-only g c =
    only_lengthened (g.S.Words.memory c.args.store.now) (g.S.Words.memory c.grow.new.self) (g.S.Words.memory c.extend_heap.new.store) c.args.self
    c.span.result c.args.pages
    c.in-Ok.ensures.ok c.in-Ok.ensures.room c.span.ensures c.extend_heap.ensures.only
