-- The heap's end has moved down, and the pages above it go.
use Rattle.rh_module.proofs.Common.{ap, subst, err_from_is_err_and, left_of, no_answer, extended, refusal_of}
use Rattle.rh_heap.specs.HeapSpans as spans
use Rattle.rh_module.proofs.LengthLaws.{down, may_shorten, may_not_shorten, shortened, only_shortened}
use Rattle.rh_module.proofs.module.Module.shorten.Goals as goal
use Rattle.rh_module.proofs.module.Module.shorten.Goals.{In_ok-extend_heap}
use Rattle.rh_module.proofs.module.Module.shorten.Given as given

ended : (g : given.Over) (c : In_ok-extend_heap g) → let m = g.S.Words.memory c.args.store.now in
    spans.SpellsHeapIn (g.S.Words.memory c.extend_heap.new.store) c.span.result (extended (down c.args.pages) (spans.heap_in m c.span.result))
ended g c =
    let m = g.S.Words.memory c.args.store.now in
    let e = (may_shorten m c.args.self c.span.result c.args.pages c.requires.module c.span.ensures c.requires.small c.in_ok-extend_heap.ensures.answer).1 in
    subst (λ r. spans.SpellsHeapIn (g.S.Words.memory c.extend_heap.new.store) c.span.result (left_of (spans.heap_in m c.span.result) (no_answer r))) e
    c.in_ok-extend_heap.ensures.spells

pub returns-in_err-extend_heap-clause-refused : goal.returns-in_err-extend_heap-clause-refused
returns-in_err-extend_heap-clause-refused g c =
    let p = err_from_is_err_and c.from_residual.result c.from_residual.ensures.1 in
    rw p.1 ((may_not_shorten (g.S.Words.memory c.args.store.now) c.args.self c.span.result c.args.pages c.requires.module c.span.ensures c.requires.small
    c.in_err-extend_heap.ensures.answer).0)

pub returns-in_err-extend_heap-clause-reason : goal.returns-in_err-extend_heap-clause-reason
returns-in_err-extend_heap-clause-reason g c =
    let p = err_from_is_err_and c.from_residual.result c.from_residual.ensures.1 in
    rw (p.1, p.2) (ap refusal_of (may_not_shorten (g.S.Words.memory c.args.store.now) c.args.self c.span.result c.args.pages c.requires.module c.span.ensures
    c.requires.small c.in_err-extend_heap.ensures.answer).1)

pub returns-clause-room : goal.returns-clause-room
returns-clause-room g c = (may_shorten (g.S.Words.memory c.args.store.now) c.args.self c.span.result c.args.pages c.requires.module c.span.ensures
    c.requires.small c.in_ok-extend_heap.ensures.answer).0

pub returns-clause-spells : goal.returns-clause-spells
returns-clause-spells g c =
    shortened (g.S.Words.memory c.args.store.now) (g.S.Words.memory c.extend_heap.new.store) (g.S.Words.memory c.shrink.new.self) c.args.self c.span.result
    c.args.pages
    c.requires.module c.span.ensures c.requires.small c.in_ok-extend_heap.ensures.only (ended g (goal.at.returns-clause-spells g c).In_ok-extend_heap)
    c.shrink.ensures

pub returns-clause-only : goal.returns-clause-only
returns-clause-only g c =
    only_shortened (g.S.Words.memory c.args.store.now) (g.S.Words.memory c.extend_heap.new.store) (g.S.Words.memory c.shrink.new.self) c.args.self
    c.span.result c.args.pages
    c.requires.module c.span.ensures c.requires.small c.in_ok-extend_heap.ensures.only (ended g (goal.at.returns-clause-only g c).In_ok-extend_heap)
    c.shrink.ensures
