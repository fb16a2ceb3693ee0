-- Each turn passes one block or finds the one; where no block stands none holds the bytes.
use Rattle.std.proofs.Common.{sym, arith}
use Rattle.rh_slot.proofs.WalkLaws.{turn, unheld_start, unheld_on, held, not_held}
use Rattle.rh_slot.proofs.slot.Slot.in_flex.Goals as goal

pub walk-init : goal.walk-init
walk-init g c = unheld_start _ _ _ _ c.flex_place-place.ensures

pub overflow_add-block : goal.overflow_add-block
overflow_add-block g c =
    let t = turn _ _ _ c.requires.spells.words c.walk.invariant.walked c.in-Some.ensures.0 _ c.in-Some.ensures.1 in
    omega (arith, t.inside, g.met.S.Words.small c.args.store.now c.args.self.area.0)

pub overflow_add-block-in-Some : goal.overflow_add-block-in-Some
overflow_add-block-in-Some g c =
    let t = turn _ _ _ c.requires.spells.words c.walk.invariant.walked c.in-Some.ensures.0 _ c.in-Some.ensures.1 in
    omega (arith, t.inside, g.met.S.Words.small c.args.store.now c.args.self.area.0)

pub returns-then-is_inside : goal.returns-then-is_inside
returns-then-is_inside g c =
    sym (held _ _ _ _ _ c.requires.spells.words c.walk.invariant c.in-Some.ensures.0 _ c.in-Some.ensures.1 (sym c.if-is_inside.ensures))

pub flex_weight-place-requires : goal.flex_weight-place-requires
flex_weight-place-requires g c =
    let t = turn _ _ _ c.requires.spells.words c.walk.invariant.walked c.in-Some.ensures.0 _ c.in-Some.ensures.1 in
    omega (arith, t.inside, g.met.S.Words.small c.args.store.now c.args.self.area.0)

pub overflow_add-place : goal.overflow_add-place
overflow_add-place g c =
    let t = turn _ _ _ c.requires.spells.words c.walk.invariant.walked c.in-Some.ensures.0 _ c.in-Some.ensures.1 in
    omega (arith, t.inside, c.flex_weight-place.ensures, g.met.S.Words.small c.args.store.now c.args.self.area.0)

pub walk-smaller : goal.walk-smaller
walk-smaller g c =
    let t = turn _ _ _ c.requires.spells.words c.walk.invariant.walked c.in-Some.ensures.0 _ c.in-Some.ensures.1 in
    omega (arith, t.fits, c.flex_weight-place.ensures)

pub walk-preserved : goal.walk-preserved
walk-preserved g c =
    unheld_on _ _ _ _ _ c.requires.spells.words c.walk.invariant c.in-Some.ensures.0 _ _ c.in-Some.ensures.1 c.flex_weight-place.ensures
    (sym c.if-is_inside.ensures)

pub returns : goal.returns
returns g c = sym (not_held _ _ _ _ _ c.requires.spells.words c.walk.invariant c.in_default.ensures)
