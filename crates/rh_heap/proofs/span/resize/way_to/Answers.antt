use Rattle.std.proofs.Common.{arith}
use Rattle.rh_heap.proofs.WayLaws.{finds_stays, finds_shrinks, finds_into, finds_small, finds_used, finds_top, finds_hole, finds_none, room_read}
use Rattle.rh_heap.proofs.span.resize.way_to.Goals as goal

pub returns-then-size-spot : goal.returns-then-size-spot
returns-then-size-spot g c = finds_stays _ _ _ _ c.requires.span.spells c.requires.found c.args.size c.if-size-spot.true

pub returns-then-size-spot-2 : goal.returns-then-size-spot-2
returns-then-size-spot-2 g c = finds_shrinks _ _ _ _ c.requires.span.spells c.requires.found c.args.size c.if-size-spot-2.true

pub read-room-requires-clause-within : goal.read-room-requires-clause-within
read-room-requires-clause-within g c =
    let s = c.requires.span.spells in
    omega (arith, room_read _ _ _ _ c.requires.span.spells c.requires.found c.args.size _ c.follow.ensures c.if-follow-upper.true, s.heap.fits, s.within)

pub returns-then-size-spot-3 : goal.returns-then-size-spot-3
returns-then-size-spot-3 g c = finds_into _ _ _ _ c.requires.span.spells c.requires.found c.args.size _ _
    (let a = c.if-size-spot.false in let l = c.if-size-spot-2.false in omega arith) c.follow.ensures c.if-follow-upper.true c.read-room.ensures.value
    c.if-size-spot-3.true

pub returns-then-follow-upper : goal.returns-then-follow-upper
returns-then-follow-upper g c = finds_small _ _ _ _ c.requires.span.spells c.requires.found c.args.size _ _
    (let a = c.if-size-spot.false in let l = c.if-size-spot-2.false in omega arith) c.follow.ensures c.if-follow-upper.true c.read-room.ensures.value
    c.if-size-spot-3.false

pub returns-then-upper-read : goal.returns-then-upper-read
returns-then-upper-read g c = finds_used _ _ _ _ c.requires.span.spells c.requires.found c.args.size _ _
    (let a = c.if-size-spot.false in let l = c.if-size-spot-2.false in omega arith) c.follow.ensures c.if-follow-upper.false c.read.ensures.value
    c.if-upper-read.true

pub returns-then-spot-size : goal.returns-then-spot-size
returns-then-spot-size g c = finds_top _ _ _ _ c.requires.span.spells c.requires.found c.args.size _ _ _
    (let a = c.if-size-spot.false in let l = c.if-size-spot-2.false in omega arith) c.follow.ensures c.if-follow-upper.false c.read.ensures.value
    c.if-upper-read.false c.read-2.ensures.value c.if-spot-size.true

pub returns-in-Some : goal.returns-in-Some
returns-in-Some g c = finds_hole _ _ _ _ c.requires.span.spells c.requires.found c.args.size _ _ _
    (let a = c.if-size-spot.false in let l = c.if-size-spot-2.false in omega arith) c.follow.ensures c.if-follow-upper.false c.read.ensures.value
    c.if-upper-read.false c.read-2.ensures.value c.if-spot-size.false _ c.in-Some.ensures

pub returns-in-None : goal.returns-in-None
returns-in-None g c = finds_none _ _ _ _ c.requires.span.spells c.requires.found c.args.size _ _ _
    (let a = c.if-size-spot.false in let l = c.if-size-spot-2.false in omega arith) c.follow.ensures c.if-follow-upper.false c.read.ensures.value
    c.if-upper-read.false c.read-2.ensures.value c.if-spot-size.false c.in-None.ensures
