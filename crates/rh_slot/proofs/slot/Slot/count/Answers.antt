-- Each turn passes one block; the walk ends where no block is left.
use Rattle.std.proofs.Common.{arith}
use Rattle.rh_slot.proofs.WalkLaws.{turn, walk_at, walks_on, few_passed, all_passed}
use Rattle.rh_slot.proofs.slot.Slot.count.Goals as goal

pub rest_of_page-anchors-requires-clause-within : goal.rest_of_page-anchors-requires-clause-within
rest_of_page-anchors-requires-clause-within g c = omega (arith, c.requires.slot.spells.words.within)

pub size_at-requires-clause-walked : goal.size_at-requires-clause-walked
size_at-requires-clause-walked g c = walk_at _ _ c.walk.invariant

pub overflow_add-walk : goal.overflow_add-walk
overflow_add-walk g c = omega (arith, few_passed _ _ _ c.requires.slot.spells.words c.walk.invariant, g.met.S.Words.small c.args.store.now c.args.self.area.0)

pub flex_weight-requires : goal.flex_weight-requires
flex_weight-requires g c =
    let t = turn _ _ _ c.requires.slot.spells.words (walk_at _ _ c.walk.invariant) c.in-Some.ensures.0 _ c.in-Some.ensures.1 in
    omega (arith, t.inside, g.met.S.Words.small c.args.store.now c.args.self.area.0)

pub overflow_add-walk-in-Some : goal.overflow_add-walk-in-Some
overflow_add-walk-in-Some g c =
    let t = turn _ _ _ c.requires.slot.spells.words (walk_at _ _ c.walk.invariant) c.in-Some.ensures.0 _ c.in-Some.ensures.1 in
    omega (arith, t.inside, c.flex_weight.ensures, g.met.S.Words.small c.args.store.now c.args.self.area.0)

pub pass_in_page-walk-requires-clause-walked : goal.pass_in_page-walk-requires-clause-walked
pass_in_page-walk-requires-clause-walked g c =
    walk_at _ _ (walks_on _ _ _ c.requires.slot.spells.words c.walk.invariant c.in-Some.ensures.0 _ _ c.in-Some.ensures.1 c.flex_weight.ensures)

pub pass_in_page-walk-requires-clause-small : goal.pass_in_page-walk-requires-clause-small
pass_in_page-walk-requires-clause-small g c =
    omega (arith, few_passed _ _ _ c.requires.slot.spells.words c.walk.invariant, g.met.S.Words.small c.args.store.now c.args.self.area.0)

pub walk-preserved : goal.walk-preserved
walk-preserved g c = c.pass_in_page-walk.ensures.walk (walks_on _ _ _ c.requires.slot.spells.words c.walk.invariant c.in-Some.ensures.0 _ _
    c.in-Some.ensures.1 c.flex_weight.ensures)

pub walk-smaller : goal.walk-smaller
walk-smaller g c =
    let w = walks_on _ _ _ c.requires.slot.spells.words c.walk.invariant c.in-Some.ensures.0 _ _ c.in-Some.ensures.1 c.flex_weight.ensures in
    omega (arith, w.most, c.pass_in_page-walk.ensures.passed)

pub returns : goal.returns
returns g c = all_passed _ _ _ c.requires.slot.spells.words c.walk.invariant c.in_default.ensures
