-- Each turn lists one block, whose header is read in the page's bytes.
use Rattle.rh_slot.proofs.Common.{◌∙◌, ap, arith, Some, slot_in}
use Rattle.rh_slot.proofs.ItemLaws.{room_left, one_more}
use Rattle.rh_slot.proofs.WalkLaws.{walk_at, walked_most, no_room, few_passed, walks_on, step_item}
use Rattle.rh_slot.proofs.PageLaws.{anchors_long, beyond, passes}
use Rattle.rh_slot.proofs.slot.Slot.list_in_page.Goals as goal

pub item_in-requires-clause-anchors : goal.item_in-requires-clause-anchors
item_in-requires-clause-anchors g c = anchors_long _ _ c.requires.anchors

pub item_in-requires-clause-small : goal.item_in-requires-clause-small
item_in-requires-clause-small g c =
    omega (arith, walked_most _ _ _ c.requires.slot.spells.words (walk_at _ _ c.walk.invariant.stands), g.met.S.Words.small c.args.store.now c.args.self.area.0)

pub overflow_add-walk : goal.overflow_add-walk
overflow_add-walk g c =
    omega (arith, few_passed _ _ _ c.requires.slot.spells.words c.walk.invariant.stands, g.met.S.Words.small c.args.store.now c.args.self.area.0)

pub overflow_add-walk-in-Some : goal.overflow_add-walk-in-Some
overflow_add-walk-in-Some g c =
    let p = passes _ _ _ _ _ _ _ _ _ c.requires.slot.spells.words (walk_at _ _ c.walk.invariant.stands) c.requires.anchors c.rest_of_page-page.ensures
    (omega (arith, c.walk.invariant.above)) c.in-Some.ensures in
    omega (arith, p.turned.inside, c.flex_weight.ensures, g.met.S.Words.small c.args.store.now c.args.self.area.0)

pub push-requires : goal.push-requires
push-requires g c =
    let p = passes _ _ _ _ _ _ _ _ _ c.requires.slot.spells.words (walk_at _ _ c.walk.invariant.stands) c.requires.anchors c.rest_of_page-page.ensures
    (omega (arith, c.walk.invariant.above)) c.in-Some.ensures in
    let k = c.requires.slot.spells.words in
    let i = c.walk.invariant in (
      omega arith,
      room_left (slot_in (g.S.Words.memory c.args.store.now) c.args.self) c.walk.walk.passed _ _ k.anchors i.listed
          (ap Some p.is ∙ step_item _ _ _ k i.stands p.block),
    )

pub walk-smaller : goal.walk-smaller
walk-smaller g c =
    let p = passes _ _ _ _ _ _ _ _ _ c.requires.slot.spells.words (walk_at _ _ c.walk.invariant.stands) c.requires.anchors c.rest_of_page-page.ensures
    (omega (arith, c.walk.invariant.above)) c.in-Some.ensures in
    omega (arith, (walks_on _ _ _ c.requires.slot.spells.words c.walk.invariant.stands p.block _ _ p.size c.flex_weight.ensures).most)

pub walk-preserved : goal.walk-preserved
walk-preserved g c =
    let i = c.walk.invariant in
    let k = c.requires.slot.spells.words in
    let p = passes _ _ _ _ _ _ _ _ _ c.requires.slot.spells.words (walk_at _ _ c.walk.invariant.stands) c.requires.anchors c.rest_of_page-page.ensures
    (omega (arith, c.walk.invariant.above)) c.in-Some.ensures in
    record {
      stands = walks_on _ _ _ k i.stands p.block _ _ p.size c.flex_weight.ensures;
      on = omega (arith, i.on);
      above = omega (arith, i.above);
      listed = c.push.ensures.items ∙ one_more _ _ _ _ i.listed (ap Some p.is ∙ step_item _ _ _ k i.stands p.block);
    }

pub returns-then-len-start-clause-all : goal.returns-then-len-start-clause-all
returns-then-len-start-clause-all g c =
    λ t. absurd (let n = no_room _ _ _ c.requires.slot.spells.words (walk_at _ _ c.requires.walk) (omega (arith, c.if-len-start.true, c.len.ensures)) in cc)

pub returns-clause-all : goal.returns-clause-all
returns-clause-all g c = λ t. let l =
    beyond _ _ _ _ _ _ _ c.requires.anchors c.rest_of_page-page.ensures (omega (arith, c.walk.invariant.above)) c.in_default.ensures t in omega (arith, l)
