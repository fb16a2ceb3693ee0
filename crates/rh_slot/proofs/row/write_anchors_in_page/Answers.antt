-- Each turn hangs one block, whose header is read in the page's bytes.
use Rattle.std.proofs.Common.{arith}
use Rattle.rh_slot.proofs.ShiftLaws.{turn_in_page}
use Rattle.rh_slot.proofs.row.write_anchors_in_page.Goals as goal

pub write_anchor-place-requires-clause-least : goal.write_anchor-place-requires-clause-least
write_anchor-place-requires-clause-least g c =
    (turn_in_page _ _ _ _ _ _ _ _ _ _ c.walk.invariant.walk c.rest_of_page-page.ensures c.walk.invariant.on (omega arith) (omega arith) c.requires.low
    c.requires.within
    (g.met.S.Words.small c.args.store.now c.args.area.0) c.word_in-anchor.ensures c.word_in-size.ensures).least

pub write_anchor-place-requires-clause-within : goal.write_anchor-place-requires-clause-within
write_anchor-place-requires-clause-within g c =
    (turn_in_page _ _ _ _ _ _ _ _ _ _ c.walk.invariant.walk c.rest_of_page-page.ensures c.walk.invariant.on (omega arith) (omega arith) c.requires.low
    c.requires.within
    (g.met.S.Words.small c.args.store.now c.args.area.0) c.word_in-anchor.ensures c.word_in-size.ensures).within

pub write_anchor-place-requires-clause-small : goal.write_anchor-place-requires-clause-small
write_anchor-place-requires-clause-small g c = omega (arith, c.requires.within, g.met.S.Words.small c.args.store.now c.args.area.0)

pub walk-preserved : goal.walk-preserved
walk-preserved g c =
    let t = turn_in_page _ _ _ _ _ _ _ _ _ _ c.walk.invariant.walk c.rest_of_page-page.ensures c.walk.invariant.on (omega arith) (omega arith) c.requires.low
    c.requires.within
    (g.met.S.Words.small c.args.store.now c.args.area.0) c.word_in-anchor.ensures c.word_in-size.ensures in
    record {
      walk = t.next _ _ c.write_anchor-place.ensures.anchors c.write_anchor-place.ensures.next;
      on = omega (arith, c.walk.invariant.on, c.write_anchor-place.ensures.next);
    }
