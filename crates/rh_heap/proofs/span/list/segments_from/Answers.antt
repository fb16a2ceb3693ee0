use Rattle.std.proofs.Common.{ap, length, arith}
use borrow.Author.Tests.{tests}
use Rattle.rh_defs.specs.declared.sizes.TheConstants.{SEGMENTS_AT_ONCE}
use Rattle.rh_heap.proofs.ListLaws.{lists_start, turn, lists_full, lists_all}
use Rattle.rh_heap.proofs.span.list.segments_from.Goals.{then-follow-place, else-follow-place}
use Rattle.rh_heap.proofs.span.list.segments_from.Goals as goal

pub walk-init : goal.walk-init
walk-init g c = record {
  few = let e = ap length c.clear.ensures in omega arith;
  lists = lists_start _ _ _ _ _ c.in-Some.ensures c.clear.ensures;
}

pub read-requires-clause-within : goal.read-requires-clause-within
read-requires-clause-within g c =
    let t = turn _ _ _ _ _ _ _ _ _ c.requires.spells c.walk.invariant.lists c.read-base.ensures.value c.walk-test.true c.follow.ensures in
    let s = c.requires.spells in
    omega (arith, t.room, s.heap.fits, s.within)

pub read-requires-else-follow-place-clause-within : goal.read-requires-else-follow-place-clause-within
read-requires-else-follow-place-clause-within g c =
    let t = turn _ _ _ _ _ _ _ _ _ c.requires.spells c.walk.invariant.lists c.read-base.ensures.value c.walk-test.true c.follow.ensures in
    let s = c.requires.spells in
    omega (arith, t.room, s.heap.fits, s.within)

pub walk-smaller : goal.walk-smaller
walk-smaller g c =
    let t = turn _ _ _ _ _ _ _ _ _ c.requires.spells c.walk.invariant.lists c.read-base.ensures.value c.walk-test.true c.follow.ensures in
    elim c.if-follow-place.branch [
      | then-follow-place w ↦ let n = t.hole w.if-follow-place.true _ w.read.ensures.value in rw w.segment-is (omega (arith, n.least, c.walk-test.true))
      | else-follow-place w ↦ let n =
          t.used w.if-follow-place.false _ w.read-else-follow-place.ensures.value in rw w.segment-is (omega (arith, n.least, c.walk-test.true))
    ]

pub walk-preserved : goal.walk-preserved
walk-preserved g c =
    let t = turn _ _ _ _ _ _ _ _ _ c.requires.spells c.walk.invariant.lists c.read-base.ensures.value c.walk-test.true c.follow.ensures in
    record {
      few = grind (arith, tests, c.push.ensures.len, c.is_full.ensures.value, c.walk.invariant.few);
      lists = elim c.if-follow-place.branch [
        | then-follow-place w ↦ rw (c.push.ensures.items, w.segment-is, w.from-is) (t.hole w.if-follow-place.true _ w.read.ensures.value).lists
        | else-follow-place w ↦ rw (c.push.ensures.items, w.segment-is, w.from-is)
            (t.used w.if-follow-place.false _ w.read-else-follow-place.ensures.value).lists
      ];
    }

pub returns-else-not-is_full : goal.returns-else-not-is_full
returns-else-not-is_full g c =
    lists_full _ _ _ _ SEGMENTS_AT_ONCE _ _ c.walk.invariant.lists (grind (arith, tests, c.is_full.ensures.value))

pub returns-after-walk : goal.returns-after-walk
returns-after-walk g c =
    lists_all _ _ _ _ _ _ _ _ _ c.requires.spells c.walk.invariant.lists c.read-base.ensures.value c.walk-test.false c.walk.invariant.few
