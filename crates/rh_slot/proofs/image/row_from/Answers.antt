use Rattle.std.proofs.Common.{sym, arith}
use Rattle.rh_slot.proofs.ImageWalks.{row_start, row_turn, row_over, row_end}
use Rattle.rh_slot.proofs.image.row_from.Goals as goal

pub walk-init : goal.walk-init
walk-init c = row_start _ _ c.requires.above c.requires.within c.requires.whole

pub returns-then-left-lt-FLEX_HEADER : goal.returns-then-left-lt-FLEX_HEADER
returns-then-left-lt-FLEX_HEADER c =
    let w = c.walk.invariant.within in let l = c.if-left-lt-FLEX_HEADER.true in row_over _ _ _ c.walk.invariant (sym c.walk-test.ensures) (omega arith)

pub returns-then-left-step : goal.returns-then-left-step
returns-then-left-step c =
    let w = c.walk.invariant.within in
    let l = c.if-left-step.true in
    let s = c.flex_weight-step.ensures in
    let e = c.word_in-size.ensures in
    row_over _ _ _ c.walk.invariant (sym c.walk-test.ensures) (omega arith)

pub walk-preserved : goal.walk-preserved
walk-preserved c =
    let w = c.walk.invariant.within in
    let l = c.if-left-step.false in
    row_turn _ _ _ _ _ c.walk.invariant (sym c.walk-test.ensures) c.word_in-size.ensures c.flex_weight-step.ensures (omega arith)

pub returns : goal.returns
returns c = row_end _ _ _ c.walk.invariant (sym c.walk-test.ensures)
