use Rattle.std.proofs.Common.{arith}
use Rattle.rh_heap.proofs.ClaimLaws.{passed_start, walk_turn}
use Rattle.rh_heap.proofs.span.peaks.find_first.Goals as goal

pub read_hole-next-requires-clause-within : goal.read_hole-next-requires-clause-within
read_hole-next-requires-clause-within g c =
    let s = c.requires.spells in
    let t = (walk_turn _ _ _ _ 4 _ s (passed_start _ _ c.args.size) c.follow-place.ensures).some c.if-place-eq0.false in
    omega (arith, t.room, s.heap.fits, s.within)

pub returns-then-size-room : goal.returns-then-size-room
returns-then-size-room g c =
    ((walk_turn _ _ _ _ 4 _ c.requires.spells (passed_start _ _ c.args.size) c.follow-place.ensures).some c.if-place-eq0.false).found _
    c.read_hole-next.ensures.size c.if-size-room.true
