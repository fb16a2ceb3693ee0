use Rattle.rh_heap.proofs.Common.{◌+◌, refl, sym, subst, ◌∙◌, arith, heap_in}
use Rattle.rh_heap.proofs.ClaimLaws.{walk_turn}
use Rattle.rh_heap.proofs.SizeLaws.{Summed, sum_start, sum_more, size_below, sums_done, sum_fits}
use Rattle.rh_heap.proofs.span.holes.describe.Goals as goal

pub overflow_sub-top : goal.overflow_sub-top
overflow_sub-top g c = let s = c.requires.spells in omega (arith, s.heap.fits, s.base, s.last)

pub walk-init : goal.walk-init
walk-init g c = sum_start _ _ _ _ _ _ c.requires.spells c.read.ensures.value c.read-2.ensures.value refl

pub returns-then-place-eq0-clause-largest : goal.returns-then-place-eq0-clause-largest
returns-then-place-eq0-clause-largest g c =
    c.saturating_sub.ensures
    ∙ (sums_done _ _ _ _ _ c.walk.invariant ((walk_turn _ _ _ _ _ _ c.requires.spells c.walk.invariant.walk c.follow-place.ensures).no_more
    c.if-place-eq0.true)).0

pub returns-then-place-eq0-clause-total : goal.returns-then-place-eq0-clause-total
returns-then-place-eq0-clause-total g c =
    (sums_done _ _ _ _ _ c.walk.invariant ((walk_turn _ _ _ _ _ _ c.requires.spells c.walk.invariant.walk c.follow-place.ensures).no_more
    c.if-place-eq0.true)).1

pub read-size-requires-clause-within : goal.read-size-requires-clause-within
read-size-requires-clause-within g c =
    let t = (walk_turn _ _ _ _ _ _ c.requires.spells c.walk.invariant.walk c.follow-place.ensures).some c.if-place-eq0.false in
    let s = c.requires.spells in
    omega (arith, t.room, s.heap.fits, s.within)

pub overflow_add-place : goal.overflow_add-place
overflow_add-place g c =
    let t = (walk_turn _ _ _ _ _ _ c.requires.spells c.walk.invariant.walk c.follow-place.ensures).some c.if-place-eq0.false in
    let s = c.requires.spells in
    omega (arith, t.room, s.heap.fits, s.within, g.met.S.Words.small c.args.store.now c.args.span.area.0)

pub walk-preserved : goal.walk-preserved
walk-preserved g c =
    let t = (walk_turn _ _ _ _ _ _ c.requires.spells c.walk.invariant.walk c.follow-place.ensures).some c.if-place-eq0.false in
    subst (λ i. Summed c.args.span.at (heap_in (g.S.Words.memory c.args.store.now) c.args.span) c.follow-place.result i (c.walk.total + c.read-size.result))
    (sym c.max-largest.ensures)
    (sum_more _ _ _ _ _ _ _ _ c.walk.invariant t c.read-size.ensures.value (size_below _ _ _ _ _ _ _ t c.read-size.ensures.value))

pub walk-smaller : goal.walk-smaller
walk-smaller g c =
    let t = (walk_turn _ _ _ _ _ _ c.requires.spells c.walk.invariant.walk c.follow-place.ensures).some c.if-place-eq0.false in
    omega (arith, t.on, t.room)

pub overflow_add-total : goal.overflow_add-total
overflow_add-total g c =
    let t = (walk_turn _ _ _ _ _ _ c.requires.spells c.walk.invariant.walk c.follow-place.ensures).some c.if-place-eq0.false in
    let w = sum_more _ _ _ _ _ _ _ _ c.walk.invariant t c.read-size.ensures.value (size_below _ _ _ _ _ _ _ t c.read-size.ensures.value) in
    let s = c.requires.spells in
    omega (arith, sum_fits _ _ _ _ _ w s.heap.fits, s.within, g.met.S.Words.small c.args.store.now c.args.span.area.0)
