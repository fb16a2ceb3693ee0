-- Each turn passes one block, and all below the end of a higher one; where none stands the blocks end.
use Rattle.std.proofs.Common.{arith}
use Rattle.rh_slot.proofs.WalkLaws.{turn, last, at_end}
use Rattle.rh_slot.proofs.slot.Slot.top_from.Goals as goal

pub flex_weight-requires : goal.flex_weight-requires
flex_weight-requires g c =
    let t = turn _ _ _ c.requires.slot.spells.words c.walk.invariant c.in-Some.ensures.0 _ c.in-Some.ensures.1 in
    omega (arith, t.inside, g.met.S.Words.small c.args.store.now c.args.self.area.0)

pub overflow_add-place : goal.overflow_add-place
overflow_add-place g c =
    let t = turn _ _ _ c.requires.slot.spells.words c.walk.invariant c.in-Some.ensures.0 _ c.in-Some.ensures.1 in
    omega (arith, t.inside, c.flex_weight.ensures, g.met.S.Words.small c.args.store.now c.args.self.area.0)

pub end_of_highest-place-requires-clause-walked : goal.end_of_highest-place-requires-clause-walked
end_of_highest-place-requires-clause-walked g c =
    (turn _ _ _ c.requires.slot.spells.words c.walk.invariant c.in-Some.ensures.0 _ c.in-Some.ensures.1).walked _ c.flex_weight.ensures

pub walk-smaller : goal.walk-smaller
walk-smaller g c =
    let t = turn _ _ _ c.requires.slot.spells.words c.walk.invariant c.in-Some.ensures.0 _ c.in-Some.ensures.1 in
    omega (arith, t.fits, c.flex_weight.ensures, c.end_of_highest-place.ensures.least)

pub walk-preserved : goal.walk-preserved
walk-preserved g c = c.end_of_highest-place.ensures.walked

pub returns : goal.returns
returns g c = at_end _ _ c.walk.invariant (last _ _ _ c.requires.slot.spells.words c.walk.invariant c.in_default.ensures)
