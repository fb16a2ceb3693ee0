use Rattle.std.proofs.Common.{arith}
use Rattle.rh_heap.proofs.ClaimLaws.{walk_turn}
use Rattle.rh_heap.proofs.TractLaws.{walked_start, walked_on, walked_end}
use Rattle.rh_heap.proofs.span.peaks.find_up_to.Goals as goal

pub walk-init : goal.walk-init
walk-init g c = (walked_start _ _ _ c.requires.span.spells _ _ _ c.requires.some c.requires.passed c.requires.before, c.follow-place.ensures)

pub read_hole-next-requires-clause-within : goal.read_hole-next-requires-clause-within
read_hole-next-requires-clause-within g c =
    let s = c.requires.span.spells in
    let t = (walk_turn _ _ _ _ _ _ s c.walk.invariant.0.passed c.walk.invariant.1).some c.walk-test.true in
    omega (arith, t.room, s.heap.fits, s.within)

pub returns-then-size-room : goal.returns-then-size-room
returns-then-size-room g c =
    ((walk_turn _ _ _ _ _ _ c.requires.span.spells c.walk.invariant.0.passed c.walk.invariant.1).some c.walk-test.true).found _ c.read_hole-next.ensures.size
    c.if-size-room.true

pub walk-preserved-then-most-room : goal.walk-preserved-then-most-room
walk-preserved-then-most-room g c = (
  walked_on _ _ _ c.requires.span.spells _ _ _ _ _ _ _ c.walk.invariant.0
      (((walk_turn _ _ _ _ _ _ c.requires.span.spells c.walk.invariant.0.passed c.walk.invariant.1).some c.walk-test.true).passed _
      c.read_hole-next.ensures.size c.if-size-room.false)
      (let l = c.if-most-room.true in omega arith) (omega arith) c.if-size-room.false,
  c.read_hole-next.ensures.next,
)

pub walk-preserved : goal.walk-preserved
walk-preserved g c = (
  walked_on _ _ _ c.requires.span.spells _ _ _ _ _ _ _ c.walk.invariant.0
      (((walk_turn _ _ _ _ _ _ c.requires.span.spells c.walk.invariant.0.passed c.walk.invariant.1).some c.walk-test.true).passed _
      c.read_hole-next.ensures.size c.if-size-room.false)
      (omega arith) c.if-most-room.false c.walk.invariant.0.less,
  c.read_hole-next.ensures.next,
)

pub returns-else-place-upper : goal.returns-else-place-upper
returns-else-place-upper g c = (
  c.walk.invariant.0.less,
  walked_end _ _ _ c.requires.span.spells _ _ _ _ _ c.walk.invariant.0 c.walk.invariant.1 (λ some. c.if-place-upper.false),
)

pub returns-after-walk : goal.returns-after-walk
returns-after-walk g c = (
  c.walk.invariant.0.less,
  walked_end _ _ _ c.requires.span.spells _ _ _ _ _ c.walk.invariant.0 c.walk.invariant.1 (λ some. absurd (some c.walk-test.false)),
)
