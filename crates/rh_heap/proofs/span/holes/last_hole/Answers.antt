-- Each turn passes a hole.
use Rattle.std.proofs.Common.{arith}
use Rattle.rh_heap.proofs.WalkLaws.{next_passed, link_inside}
use Rattle.rh_heap.proofs.span.holes.last_hole.Goals as goal

pub follow-next-requires-in-walk-clause-within : goal.follow-next-requires-in-walk-clause-within
follow-next-requires-in-walk-clause-within g c =
    let s = c.requires.span.spells in
    let i = c.walk.invariant in
    let room = link_inside _ _ _ _ _ (next_passed _ _ _ _ _ _ s i.0 i.1 c.walk-test.true) in
    omega (arith, room, s.heap.fits, s.within)

pub walk-preserved : goal.walk-preserved
walk-preserved g c =
    let i = c.walk.invariant in
    (next_passed _ _ _ _ _ _ c.requires.span.spells i.0 i.1 c.walk-test.true, c.follow-next-in-walk.ensures, c.if-next-target.true)
