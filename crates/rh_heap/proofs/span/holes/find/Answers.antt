use Rattle.std.proofs.Common.{arith}
use Rattle.rh_heap.proofs.ClaimLaws.{passed_start, walk_turn}
use Rattle.rh_heap.proofs.span.holes.find.Goals as goal

pub walk-init : goal.walk-init
walk-init g c = (passed_start _ _ _, c.follow-place.ensures)

pub returns-then-place-eq0 : goal.returns-then-place-eq0
returns-then-place-eq0 g c = (walk_turn _ _ _ _ _ _ c.requires.spells c.walk.invariant.0 c.walk.invariant.1).none c.if-place-eq0.true

pub read_hole-next-requires-clause-within : goal.read_hole-next-requires-clause-within
read_hole-next-requires-clause-within g c =
    let t = (walk_turn _ _ _ _ _ _ c.requires.spells c.walk.invariant.0 c.walk.invariant.1).some c.if-place-eq0.false in
    let s = c.requires.spells in
    omega (arith, t.room, s.heap.fits, s.within)

pub returns-then-size-room : goal.returns-then-size-room
returns-then-size-room g c =
    ((walk_turn _ _ _ _ _ _ c.requires.spells c.walk.invariant.0 c.walk.invariant.1).some c.if-place-eq0.false).found _ c.read_hole-next.ensures.size
    c.if-size-room.true

pub walk-preserved : goal.walk-preserved
walk-preserved g c = (
  (((walk_turn _ _ _ _ _ _ c.requires.spells c.walk.invariant.0 c.walk.invariant.1).some c.if-place-eq0.false).passed _ c.read_hole-next.ensures.size
      c.if-size-room.false).walk,
  c.read_hole-next.ensures.next,
)

pub walk-smaller : goal.walk-smaller
walk-smaller g c =
    let t = (walk_turn _ _ _ _ _ _ c.requires.spells c.walk.invariant.0 c.walk.invariant.1).some c.if-place-eq0.false in
    omega (arith, t.on, t.room)
