use Rattle.rh_heap.proofs.Common.{◌∙◌, ◌*◌, ◌/◌, ℕ, length, ap, arith, length-replicate}
use Rattle.rh_heap.proofs.MapLaws.{mapped_start, map_turn, mapped_all}
use Rattle.rh_heap.proofs.span.indexed.index.Goals as goal

pub walk-init : goal.walk-init
walk-init g c =
    let filled = c.fill.ensures.after (λ y e. e) in
    record { long = ap length filled ∙ length-replicate {A = ℕ} (length c.args.starts.now) 0; mapped = mapped_start _ _ _ _ filled }

pub read-place-requires-clause-within : goal.read-place-requires-clause-within
read-place-requires-clause-within g c =
    let s = c.requires.span.spells in
    let lt = c.walk-test.true in
    let based = c.read-base.ensures.value ∙ s.base in
    let t = map_turn _ _ _ _ _ _ _ s c.walk.invariant.mapped c.follow.ensures (omega arith) in
    omega (arith, t.room, s.heap.fits, s.within)

pub read-place-requires-else-follow-place-clause-within : goal.read-place-requires-else-follow-place-clause-within
read-place-requires-else-follow-place-clause-within g c =
    let s = c.requires.span.spells in
    let lt = c.walk-test.true in
    let based = c.read-base.ensures.value ∙ s.base in
    let t = map_turn _ _ _ _ _ _ _ s c.walk.invariant.mapped c.follow.ensures (omega arith) in
    omega (arith, t.room, s.heap.fits, s.within)

pub walk-preserved-then-follow-place : goal.walk-preserved-then-follow-place
walk-preserved-then-follow-place g c =
    let s = c.requires.span.spells in
    let lt = c.walk-test.true in
    let based = c.read-base.ensures.value ∙ s.base in
    let t = map_turn _ _ _ _ _ _ _ s c.walk.invariant.mapped c.follow.ensures (omega arith) in
    record { long = c.set.ensures.long ∙ c.walk.invariant.long; mapped = (t.hole c.if-follow-place.true _ c.read-place.ensures.value _ c.set.ensures.bits).0 }

pub walk-preserved : goal.walk-preserved
walk-preserved g c =
    let s = c.requires.span.spells in
    let lt = c.walk-test.true in
    let based = c.read-base.ensures.value ∙ s.base in
    let t = map_turn _ _ _ _ _ _ _ s c.walk.invariant.mapped c.follow.ensures (omega arith) in
    record {
      long = c.set-else-follow-place.ensures.long ∙ c.walk.invariant.long;
      mapped = (t.used c.if-follow-place.false _ c.read-place-else-follow-place.ensures.value _ c.set-else-follow-place.ensures.bits).0;
    }

pub returns-clause-starts : goal.returns-clause-starts
returns-clause-starts g c =
    let s = c.requires.span.spells in
    let le = c.walk-test.false in
    let based = c.read-base.ensures.value ∙ s.base in
    let half = ap (λ n. 512 * (n / 2)) c.walk.invariant.long in
    let long = c.requires.long in
    mapped_all _ _ _ _ _ s.heap.tidy c.walk.invariant.mapped (omega arith) (omega arith)

pub set-requires-clause-within : goal.set-requires-clause-within
set-requires-clause-within g c =
    let s = c.requires.span.spells in
    let half = ap (λ n. 512 * (n / 2)) c.walk.invariant.long in
    omega (arith, c.walk-test.true, c.read-base.ensures.value ∙ s.base, s.heap.fits, c.requires.long, half)

pub set-requires-else-follow-place-clause-within : goal.set-requires-else-follow-place-clause-within
set-requires-else-follow-place-clause-within g c =
    let s = c.requires.span.spells in
    let half = ap (λ n. 512 * (n / 2)) c.walk.invariant.long in
    omega (arith, c.walk-test.true, c.read-base.ensures.value ∙ s.base, s.heap.fits, c.requires.long, half)

pub walk-smaller-then-follow-place : goal.walk-smaller-then-follow-place
walk-smaller-then-follow-place g c =
    let s = c.requires.span.spells in
    let lt = c.walk-test.true in
    let based = c.read-base.ensures.value ∙ s.base in
    let t = map_turn _ _ _ _ _ _ _ s c.walk.invariant.mapped c.follow.ensures (omega arith) in
    let least = (t.hole c.if-follow-place.true _ c.read-place.ensures.value _ c.set.ensures.bits).1 in
    omega arith

pub walk-smaller : goal.walk-smaller
walk-smaller g c =
    let s = c.requires.span.spells in
    let lt = c.walk-test.true in
    let based = c.read-base.ensures.value ∙ s.base in
    let t = map_turn _ _ _ _ _ _ _ s c.walk.invariant.mapped c.follow.ensures (omega arith) in
    let least = (t.used c.if-follow-place.false _ c.read-place-else-follow-place.ensures.value _ c.set-else-follow-place.ensures.bits).1 in
    omega arith
