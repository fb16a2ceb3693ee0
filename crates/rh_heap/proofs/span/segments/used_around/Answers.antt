-- Each turn passes a used segment, and those behind it whose sizes lie side by side.
use Rattle.std.proofs.Common.{arith}
use Rattle.rh_heap.proofs.WalkLaws.{mark_turn}
use Rattle.rh_heap.proofs.span.segments.used_around.Goals as goal

pub read-size-requires-clause-within : goal.read-size-requires-clause-within
read-size-requires-clause-within g c =
    let t = mark_turn _ _ _ _ _ _ c.requires.span.spells c.requires.no_hole c.requires.below c.walk.invariant in
    let s = c.requires.span.spells in
    omega (arith, t.room, s.heap.fits, s.within)

pub returns-then-target-end : goal.returns-then-target-end
returns-then-target-end g c =
    let t = mark_turn _ _ _ _ _ _ c.requires.span.spells c.requires.no_hole c.requires.below c.walk.invariant in
    record { met = t.met _ c.read-size.ensures.value; from_on = c.walk.invariant.up_to; up_to = c.if-target-end.true }

pub pass_in_run-mark-requires-clause-reached : goal.pass_in_run-mark-requires-clause-reached
pass_in_run-mark-requires-clause-reached g c =
    (mark_turn _ _ _ _ _ _ c.requires.span.spells c.requires.no_hole c.requires.below c.walk.invariant).on _ c.read-size.ensures.value

pub walk-smaller : goal.walk-smaller
walk-smaller g c =
    let t = mark_turn _ _ _ _ _ _ c.requires.span.spells c.requires.no_hole c.requires.below c.walk.invariant in
    let m = t.met _ c.read-size.ensures.value in
    omega (arith, m.least, c.pass_in_run-mark.ensures.on, c.if-target-end.false)
