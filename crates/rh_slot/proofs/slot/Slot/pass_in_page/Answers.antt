-- Each turn passes one block, whose header is read in the page's bytes.
use Rattle.std.proofs.Common.{arith}
use Rattle.rh_slot.proofs.WalkLaws.{walked_most, no_room, walks_on}
use Rattle.rh_slot.proofs.PageLaws.{anchors_long, beyond, passes}
use Rattle.rh_slot.proofs.slot.Slot.pass_in_page.Goals as goal

pub walk-init : goal.walk-init
walk-init g c = record { walked = c.requires.walked; above = omega arith; walk = λ w. w; passed = omega arith; few = omega arith }

pub item_in-requires-clause-anchors : goal.item_in-requires-clause-anchors
item_in-requires-clause-anchors g c = anchors_long _ _ c.requires.anchors

pub item_in-requires-clause-small : goal.item_in-requires-clause-small
item_in-requires-clause-small g c =
    omega (arith, walked_most _ _ _ c.requires.slot.spells.words c.walk.invariant.walked, g.met.S.Words.small c.args.store.now c.args.self.area.0)

pub overflow_add-walk : goal.overflow_add-walk
overflow_add-walk g c =
    omega (
      arith,
      c.walk.invariant.few,
      c.requires.small,
      walked_most _ _ _ c.requires.slot.spells.words c.walk.invariant.walked,
      g.met.S.Words.small c.args.store.now c.args.self.area.0,
    )

pub overflow_add-walk-in-Some : goal.overflow_add-walk-in-Some
overflow_add-walk-in-Some g c =
    let p = passes _ _ _ _ _ _ _ _ _ c.requires.slot.spells.words c.walk.invariant.walked c.requires.anchors c.rest_of_page-page.ensures
    (omega (arith, c.walk.invariant.above)) c.in-Some.ensures in
    omega (arith, p.turned.inside, c.flex_weight.ensures, g.met.S.Words.small c.args.store.now c.args.self.area.0)

pub walk-smaller : goal.walk-smaller
walk-smaller g c =
    let p = passes _ _ _ _ _ _ _ _ _ c.requires.slot.spells.words c.walk.invariant.walked c.requires.anchors c.rest_of_page-page.ensures
    (omega (arith, c.walk.invariant.above)) c.in-Some.ensures in
    omega (arith, p.turned.fits, c.flex_weight.ensures)

pub walk-preserved : goal.walk-preserved
walk-preserved g c =
    let i = c.walk.invariant in
    let p = passes _ _ _ _ _ _ _ _ _ c.requires.slot.spells.words c.walk.invariant.walked c.requires.anchors c.rest_of_page-page.ensures
    (omega (arith, c.walk.invariant.above)) c.in-Some.ensures in
    record {
      walked = p.turned.walked _ c.flex_weight.ensures;
      above = omega (arith, i.above);
      walk = λ w. walks_on _ _ _ c.requires.slot.spells.words (i.walk w) p.block _ _ p.size c.flex_weight.ensures;
      passed = omega (arith, i.passed);
      few = omega (arith, i.few, c.flex_weight.ensures);
    }

pub returns-then-len-start-clause-all : goal.returns-then-len-start-clause-all
returns-then-len-start-clause-all g c =
    λ t. absurd (let n = no_room _ _ _ c.requires.slot.spells.words c.requires.walked (omega (arith, c.if-len-start.true, c.len.ensures)) in cc)

pub returns-clause-all : goal.returns-clause-all
returns-clause-all g c = λ t. let l =
    beyond _ _ _ _ _ _ _ c.requires.anchors c.rest_of_page-page.ensures (omega (arith, c.walk.invariant.above)) c.in_default.ensures t in omega (arith, l)
